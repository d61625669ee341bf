-- What a client was given is what its replies say: the stops document, and the pages.
use Rattle.std.proofs.Common.{◌≡◌, ◌∙◌, ℕ, List, [], ◌∷◌, ◌++◌, Option, Some, None, Result, Ok, ap, ap₂, refl, subst, sym}
use Rattle.connection_uri.specs.Base.{BaseParts}
use Rattle.lc_model.specs.declared.doc.StopsDoc.{StopsDoc}
use Rattle.lc_model.specs.declared.journey.Journey.{Journey}
use Rattle.lc_model.specs.declared.page.PageName.{PageName}
use Rattle.lc_model.specs.declared.query.Query.{Query}
use Rattle.page_client.proofs.OneReplyLemmas.{one_gate_reply, one_page_reply, one_stops_reply}
use Rattle.page_client.specs.Gate.{IsGateReply}
use Rattle.page_client.specs.Page.{IsPageReply}
use Rattle.page_client.specs.Stops.{IsStopsReply}
use Rattle.page_client.specs.declared.fault.PeerFault.{PeerFault}
use Rattle.page_client.specs.declared.outcome.Outcome.{Outcome}
use Rattle.page_client.specs.declared.outcome.Outcome.TheVariants as outcomes
use Rattle.page_client.specs.declared.phase.Phase.{Phase}
use Rattle.page_client.specs.declared.phase.Phase.TheVariants as phases
use Rattle.page_client.specs.declared.want.Want.TheVariants as wants
use Rattle.page_json.specs.declared.page.Page.{Page}
use Rattle.convoy.specs.Replies.Course.{IsReading, ReadsPages}
use Rattle.convoy.specs.Replies.Ends.{HasAnswered}
use Rattle.convoy.specs.Replies.Laws.{replies_of}
use Rattle.convoy.specs.Replies.Made.{Made, failure_of, reply_to}
use Rattle.convoy.proofs.RepliesLemmas.CourseLemmas.{reads_more, stands_last}
use Rattle.rounds_client.specs.Given.{KeepsDoc, Was}

-- the document and the pages are these
pub record HasGiven (given : Was) (doc : StopsDoc) (pages : List Page) : Type 0 where
  pub doc_is : given.doc ≡ Some doc
  pub pages_are : given.pages ≡ pages

-- whatever a client reads that wants this page after these exchanges, it was given
abbrev pub ReadsGiven : BaseParts → Query → List Made → Was → PageName → Type 0
ReadsGiven base query made given name =
    (version : Option ℕ) (m : List Made) (n : PageName) → m ≡ made → n ≡ name → (come : IsReading base query version m n) → HasGiven given come.doc come.pages

-- and whatever a client read that found a journey by these exchanges
abbrev pub ReadGiven : BaseParts → Query → List Made → Was → Option Outcome → Type 0
ReadGiven base query made given outcome =
    (version : Option ℕ) (journey : Journey) → outcome ≡ Some (outcomes.Found journey) → (read : HasAnswered base query version made (Some journey))
    → HasGiven given read.came.doc (read.came.pages ++ read.page ∷ [])

-- what was given in each phase; before the first page there is none
abbrev pub ReadAt : BaseParts → Query → List Made → Was → Option Outcome → Phase → Type 0
ReadAt base query made given outcome phases.Gate = given.pages ≡ []
ReadAt base query made given outcome (phases.Stops first) = given.pages ≡ []
ReadAt base query made given outcome (phases.Page name) = ReadsGiven base query made given name
ReadAt base query made given outcome phases.Finished = ReadGiven base query made given outcome

-- exchanges for pages say one list of pages
pub one_list : (base : BaseParts) (link : Option PageName) (made : List Made) (a b : List Page) → ReadsPages base link made a → ReadsPages base link made b → a ≡ b
one_list base link [] [] [] x y = refl
one_list base link [] [] (q ∷ b) x y = absurd y
one_list base link [] (p ∷ a) b x y = absurd x
one_list base link (m ∷ made) [] b x y = absurd x
one_list base link (m ∷ made) (p ∷ a) [] x y = absurd y
one_list base None (m ∷ made) (p ∷ a) (q ∷ b) x y = absurd x
one_list base (Some name) (m ∷ made) (p ∷ a) (q ∷ b) x y =
    let got : Some x.0.reply ≡ Some y.0.reply = sym (ap (λ (k : Made). k.got) x.0.is) ∙ ap (λ (k : Made). k.got) y.0.is in
    let reply : x.0.reply ≡ y.0.reply = cc in
    let says : IsPageReply base name y.0.reply (Ok p) = subst (λ (r : List ℕ). IsPageReply base name r (Ok p)) reply x.0.says in
    let result : Ok p ≡ Ok q = one_page_reply base name y.0.reply (Ok p) (Ok q) says y.0.says in
    let page : p ≡ q = cc in
    let behind : ReadsPages base p.next made b = subst (λ (r : Page). ReadsPages base r.next made b) (sym page) y.1 in
    ap₂ (λ (r : Page) (l : List Page). r ∷ l) page (one_list base p.next made a b x.1 behind)

-- the time gate sends to one page
one_first : (base : BaseParts) (leave : ℕ) (gate_a gate_b : List ℕ) (first_a first_b : PageName) → IsGateReply base leave gate_a (Ok first_a) → IsGateReply base leave gate_b (Ok first_b) → gate_a ≡ gate_b → first_a ≡ first_b
one_first base leave gate_a gate_b first_a first_b x y same =
    let result : Ok first_a ≡ Ok first_b = one_gate_reply base leave gate_b (Ok first_a) (Ok first_b) (subst (λ (g : List ℕ). IsGateReply base leave g (Ok first_a)) same x) y in
    cc

-- one document is said
one_doc : (a b : List ℕ) (doc other : StopsDoc) → a ≡ b → IsStopsReply a (Ok doc) → IsStopsReply b (Ok other) → doc ≡ other
one_doc a b doc other same x y =
    let result : Ok doc ≡ Ok other = one_stops_reply b (Ok doc) (Ok other) (subst (λ (r : List ℕ). IsStopsReply r (Ok doc)) same x) y in
    cc

-- the document and the pages that exchanges say
module _ (base : BaseParts) (query : Query) (version_a version_b : Option ℕ) (made_a made_b : List Made) (name_a name_b : PageName) (a : IsReading base query version_a made_a name_a)
    (b : IsReading base query version_b made_b name_b) where
  gots : (more : List Made) → made_a ++ more ≡ made_b → Some a.gate ∷ Some a.stops ∷ replies_of (a.for_pages ++ more) ≡ Some b.gate ∷ Some b.stops ∷ replies_of b.for_pages
  gots more are = ap (λ (l : List Made). replies_of (l ++ more)) (sym a.was_made) ∙ ap replies_of are ∙ ap replies_of b.was_made

  rest : (more : List Made) → made_a ++ more ≡ made_b → a.for_pages ++ more ≡ b.for_pages
  rest more are =
      let whole : reply_to wants.Gate a.gate ∷ reply_to wants.Stops a.stops ∷ (a.for_pages ++ more) ≡ reply_to wants.Gate b.gate ∷ reply_to wants.Stops b.stops ∷ b.for_pages =
      ap (λ (l : List Made). l ++ more) (sym a.was_made) ∙ are ∙ b.was_made in
      cc

  -- they say one document
  pub same_doc : (more : List Made) → made_a ++ more ≡ made_b → a.doc ≡ b.doc
  same_doc more are =
      let got = gots more are in
      let stops : a.stops ≡ b.stops = cc in
      one_doc a.stops b.stops a.doc b.doc stops a.says_stops b.says_stops

  -- and with these more the pages with these more
  pub same_pages : (more : List Made) (pages : List Page) → made_a ++ more ≡ made_b → ReadsPages base (Some a.first) (a.for_pages ++ more) pages → pages ≡ b.pages
  same_pages more pages are reads =
      let got = gots more are in
      let gate : a.gate ≡ b.gate = cc in
      let first = one_first base query.leave a.gate b.gate a.first b.first a.sends b.sends gate in
      let by_first : ReadsPages base (Some b.first) (a.for_pages ++ more) pages = subst (λ (n : PageName). ReadsPages base (Some n) (a.for_pages ++ more) pages) first reads in
      let by_rest : ReadsPages base (Some b.first) b.for_pages pages = subst (λ (l : List Made). ReadsPages base (Some b.first) l pages) (rest more are) by_first in
      one_list base (Some b.first) b.for_pages pages b.pages by_rest b.reads

-- who reads has made two exchanges at least
not_reading_first : (base : BaseParts) (query : Query) (version : Option ℕ) (made : List Made) (name : PageName) → IsReading base query version made name → made ≡ [] → ⊥
not_reading_first base query version made name come none = let e : [] ≡ reply_to wants.Gate come.gate ∷ reply_to wants.Stops come.stops ∷ come.for_pages = sym none ∙ come.was_made in cc

not_reading_second : (base : BaseParts) (query : Query) (version : Option ℕ) (made : List Made) (name : PageName) (one : Made) → IsReading base query version made name → made ≡ one ∷ [] → ⊥
not_reading_second base query version made name one come is =
    let e : one ∷ [] ≡ reply_to wants.Gate come.gate ∷ reply_to wants.Stops come.stops ∷ come.for_pages = sym is ∙ come.was_made in
    let none : [] ≡ reply_to wants.Stops come.stops ∷ come.for_pages = cc in
    cc

-- the exchanges before the last one
before_last : (base : BaseParts) (query : Query) (version : Option ℕ) (made : List Made) (one : Made) (journey : Option Journey) (read : HasAnswered base query version (made ++ one ∷ []) journey)
    → (made ≡ read.earlier) × (one ≡ reply_to (wants.Page read.name) read.reply)
before_last base query version made one journey read = stands_last made read.earlier one (reply_to (wants.Page read.name) read.reply) read.was_made

-- after an exchange with the time gate
pub read_after_gate : (base : BaseParts) (query : Query) (made : List Made) (one : Made) (given : Was) (outcome : Option Outcome) (phase : Phase) → made ≡ [] → given.pages ≡ [] → ReadAt base query (made ++ one ∷ []) given outcome phase
read_after_gate base query made one given outcome phases.Gate none unread = unread
read_after_gate base query made one given outcome (phases.Stops first) none unread = unread
read_after_gate base query made one given outcome (phases.Page name) none unread =
    λ version m n is named come. absurd (not_reading_second base query version m n one come (is ∙ ap (λ (l : List Made). l ++ one ∷ []) none))
read_after_gate base query made one given outcome phases.Finished none unread =
    λ version journey found read.
    absurd (not_reading_first base query version read.earlier read.name read.came (sym (before_last base query version made one (Some journey) read).0 ∙ none))

-- no page is said by no exchange
no_pages : (base : BaseParts) (link : Option PageName) (pages : List Page) → ReadsPages base link [] pages → [] ≡ pages
no_pages base link [] reads = refl
no_pages base link (page ∷ pages) reads = absurd reads

-- after the reply with the stops document
module _ (base : BaseParts) (query : Query) (gate one : Made) (now : Was) (unread : now.pages ≡ []) where
  -- the reply that is kept is the one that was read
  kept_doc : (reply : List ℕ) (said : Result StopsDoc PeerFault) → one ≡ reply_to wants.Stops reply → IsStopsReply reply said → KeepsDoc query said now.doc → (version : Option ℕ) (made : List Made) (name : PageName)
      → made ≡ gate ∷ one ∷ [] → (come : IsReading base query version made name) → now.doc ≡ Some come.doc
  kept_doc reply said is says keeps version made name are come =
      let whole : gate ∷ one ∷ [] ≡ reply_to wants.Gate come.gate ∷ reply_to wants.Stops come.stops ∷ come.for_pages = sym are ∙ come.was_made in
      let second : one ≡ reply_to wants.Stops come.stops = cc in
      let got : Some reply ≡ Some come.stops = sym (ap (λ (m : Made). m.got) is) ∙ ap (λ (m : Made). m.got) second in
      let same : reply ≡ come.stops = cc in
      let result : said ≡ Ok come.doc = one_stops_reply come.stops said (Ok come.doc) (subst (λ (r : List ℕ). IsStopsReply r said) same says) come.says_stops in
      let kept : KeepsDoc query (Ok come.doc) now.doc = subst (λ (r : Result StopsDoc PeerFault). KeepsDoc query r now.doc) result keeps in
      kept come.from come.to

  not_pages : (version : Option ℕ) (made : List Made) (name : PageName) → made ≡ gate ∷ one ∷ [] → (come : IsReading base query version made name) → now.pages ≡ come.pages
  not_pages version made name are come =
      let whole : gate ∷ one ∷ [] ≡ reply_to wants.Gate come.gate ∷ reply_to wants.Stops come.stops ∷ come.for_pages = sym are ∙ come.was_made in
      let none : [] ≡ come.for_pages = cc in
      unread ∙ no_pages base (Some come.first) come.pages (subst (λ (l : List Made). ReadsPages base (Some come.first) l come.pages) (sym none) come.reads)

  pub read_after_stops : (made : List Made) (outcome : Option Outcome) (phase : Phase) → made ≡ gate ∷ [] → ((version : Option ℕ) (m : List Made) (name : PageName) → m ≡ gate ∷ one ∷ []
      → (come : IsReading base query version m name) → now.doc ≡ Some come.doc) → ReadAt base query (made ++ one ∷ []) now outcome phase
  read_after_stops made outcome phases.Gate are kept = unread
  read_after_stops made outcome (phases.Stops first) are kept = unread
  read_after_stops made outcome (phases.Page name) are kept =
      λ version m n is named come.
      let both : m ≡ gate ∷ one ∷ [] = is ∙ ap (λ (l : List Made). l ++ one ∷ []) are in
      record { doc_is = kept version m n both come; pages_are = not_pages version m n both come }
  read_after_stops made outcome phases.Finished are kept =
      λ version journey found read.
      absurd (not_reading_second base query version read.earlier read.name gate read.came (sym (before_last base query version made one (Some journey) read).0 ∙ are))

  -- by a reply, or by none
  pub kept_by_reply : (reply : List ℕ) (said : Result StopsDoc PeerFault) → one ≡ reply_to wants.Stops reply → IsStopsReply reply said → KeepsDoc query said now.doc → (version : Option ℕ) (m : List Made) (name : PageName)
      → m ≡ gate ∷ one ∷ [] → (come : IsReading base query version m name) → now.doc ≡ Some come.doc
  kept_by_reply reply said is says keeps version m name are come = kept_doc reply said is says keeps version m name are come

  pub kept_by_none : one ≡ failure_of wants.Stops → (version : Option ℕ) (m : List Made) (name : PageName) → m ≡ gate ∷ one ∷ [] → (come : IsReading base query version m name) → now.doc ≡ Some come.doc
  kept_by_none is version m name are come =
      let whole : gate ∷ one ∷ [] ≡ reply_to wants.Gate come.gate ∷ reply_to wants.Stops come.stops ∷ come.for_pages = sym are ∙ come.was_made in
      let second : one ≡ reply_to wants.Stops come.stops = cc in
      let got : None ≡ Some come.stops = sym (ap (λ (m : Made). m.got) is) ∙ ap (λ (m : Made). m.got) second in
      absurd (cc)

-- after a page that was said
module _ (base : BaseParts) (query : Query) (version : Option ℕ) (made : List Made) (name : PageName) (reply : List ℕ) (page : Page) (given now : Was) (come : IsReading base query version made name)
    (reads : ReadsGiven base query made given name) (says : IsPageReply base name reply (Ok page)) (pages : now.pages ≡ given.pages ++ page ∷ []) (doc : now.doc ≡ given.doc) where
  abbrev last : Made
  last = reply_to (wants.Page name) reply

  given_on : (w : Option ℕ) (m : List Made) (next : PageName) → m ≡ made ++ last ∷ [] → (on : IsReading base query w m next) → HasGiven now on.doc on.pages
  given_on w m next is on =
      let had = reads version made name refl refl come in
      let more : ReadsPages base (Some come.first) (come.for_pages ++ last ∷ []) (come.pages ++ page ∷ []) =
      reads_more base (Some come.first) come.for_pages come.pages name last page come.reads come.links (record { reply = reply; is = refl; says = says }) in
      record {
        doc_is = doc ∙ had.doc_is ∙ ap Some (same_doc base query version w made m name next come on (last ∷ []) (sym is));
        pages_are =
            pages ∙ ap (λ (l : List Page). l ++ page ∷ []) had.pages_are
            ∙ same_pages base query version w made m name next come on (last ∷ []) (come.pages ++ page ∷ []) (sym is) more;
      }

  found_given : (w : Option ℕ) (journey : Journey) (read : HasAnswered base query w (made ++ last ∷ []) (Some journey)) → HasGiven now read.came.doc (read.came.pages ++ read.page ∷ [])
  found_given w journey read =
      let both = before_last base query w made last (Some journey) read in
      let want : wants.Page name ≡ wants.Page read.name = ap (λ (m : Made). m.want) both.1 in
      let named : name ≡ read.name = cc in
      let got : Some reply ≡ Some read.reply = ap (λ (m : Made). m.got) both.1 in
      let same : reply ≡ read.reply = cc in
      let said : IsPageReply base read.name read.reply (Ok page) =
      subst (λ (r : List ℕ). IsPageReply base read.name r (Ok page)) same (subst (λ (n : PageName). IsPageReply base n reply (Ok page)) named says) in
      let result : Ok page ≡ Ok read.page = one_page_reply base read.name read.reply (Ok page) (Ok read.page) said read.says in
      let own : page ≡ read.page = cc in
      let had = reads w read.earlier read.name (sym both.0) (sym named) read.came in
      record {
        doc_is = doc ∙ had.doc_is;
        pages_are = pages ∙ ap (λ (l : List Page). l ++ page ∷ []) had.pages_are ∙ ap (λ (p : Page). read.came.pages ++ p ∷ []) own;
      }

  -- in the phases that may follow
  pub read_after_page : (outcome : Option Outcome) (phase : Phase) → (phase ≡ phases.Gate → ⊥) → ((first : PageName) → phase ≡ phases.Stops first → ⊥) → ReadAt base query (made ++ last ∷ []) now outcome phase
  read_after_page outcome phases.Gate not_gate not_stops = absurd (not_gate refl)
  read_after_page outcome (phases.Stops first) not_gate not_stops = absurd (not_stops first refl)
  read_after_page outcome (phases.Page next) not_gate not_stops = λ w m n is named on. given_on w m n is on
  read_after_page outcome phases.Finished not_gate not_stops = λ w journey found read. found_given w journey read
