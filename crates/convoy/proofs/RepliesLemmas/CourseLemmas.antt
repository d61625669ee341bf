-- The pages that a client read, with one page more.
use Rattle.std.proofs.Common.{◌≡◌, ℕ, ◌<◌, ◌≤◌, List, [], ◌∷◌, ◌++◌, Bool, true, false, not, ◌&&◌, ◌==◌, Option, Some, None, Result, Ok, Err, refl, ap, ap₂, sym, subst, ◌∙◌, append-nil, append_assoc, arith, if◌then◌else◌}
use Rattle.std.specs.List.{All}
use Rattle.std.proofs.lemmas.Bool.Decides.{nat_tests}
use Rattle.std.proofs.lemmas.List.Concat.{flat_map-append}
use Rattle.std.proofs.lemmas.List.Elements.{All-cons, All-nil, All-push, All-weaker}
use Rattle.lc_model.specs.declared.connection.Connection.{Connection}
use Rattle.lc_model.specs.declared.doc.StopsDoc.{StopsDoc}
use Rattle.lc_model.specs.declared.page.PageName.{PageName}
use Rattle.lc_model.specs.declared.query.Query.{Query}
use Rattle.lc_model.specs.Connection.{last_departure}
use Rattle.connection_uri.specs.Base.{BaseParts}
use Rattle.page_json.specs.Valid.{IsValidPage}
use Rattle.page_json.specs.declared.object_members.fault.PageFault.{PageFault}
use Rattle.page_json.specs.declared.page.Page.{Page}
use Rattle.page_json.specs.PageReading.{page_of_bytes}
use Rattle.page_json.proofs.ValidResultLemmas.{valid_page_of_bytes}
use Rattle.page_client.specs.Course.{IsOver}
use Rattle.page_client.specs.Page.{IsPageReply, advances, begins_at, is_asked, is_of_version, is_on_from, tested_body}
use Rattle.page_client.specs.Replied.{body_of}
use Rattle.page_client.specs.declared.fault.PeerFault.TheVariants.{Advance, Identity}
use Rattle.page_client.specs.declared.want.Want.{Want}
use Rattle.page_client.specs.declared.want.Want.TheVariants as wants
use Rattle.page_client.proofs.OrderLemmas.{LeadsOn, leads_on, spans}
use Rattle.convoy.specs.Replies.Course.{GoesOnAfterEach, WantsAfter, IsReading, IsSentRight, Reads, ReadsPages, connections_in, link_behind}
use Rattle.convoy.specs.Replies.Made.{Made, reply_to}

-- the connections, with one page more
pub connections_more : (pages : List Page) (page : Page) → connections_in pages ++ page.list ≡ connections_in (pages ++ page ∷ [])
connections_more pages page =
    sym (flat_map-append (λ (p : Page). p.list) pages (page ∷ []) ∙ ap (λ (l : List Connection). connections_in pages ++ l) (append-nil page.list))

-- one page more is read
pub reads_more : (base : BaseParts) (link : Option PageName) (made : List Made) (pages : List Page) (name : PageName) (one : Made) (page : Page) →
    ReadsPages base link made pages → link_behind link pages ≡ Some name → Reads base name one page → ReadsPages base link (made ++ one ∷ []) (pages ++ page ∷ [])
reads_more base link [] [] name one page reads links is = subst (λ (l : Option PageName). ReadsPages base l (one ∷ []) (page ∷ [])) (sym links) (is, tt)
reads_more base link [] (p ∷ pages) name one page reads links is = absurd reads
reads_more base link (m ∷ made) [] name one page reads links is = absurd reads
reads_more base None (m ∷ made) (p ∷ pages) name one page reads links is = absurd reads
reads_more base (Some first) (m ∷ made) (p ∷ pages) name one page reads links is = (reads.0, reads_more base p.next made pages name one page reads.1 links is)

-- after it comes the page to which it links
pub link_more : (link : Option PageName) (pages : List Page) (page : Page) → link_behind link (pages ++ page ∷ []) ≡ page.next
link_more link [] page = refl
link_more link (p ∷ pages) page = link_more p.next pages page

-- the first of pages stays the first
pub right_more : (leave : ℕ) (first : Page) (rest more : List Page) → IsSentRight leave (first ∷ rest) → IsSentRight leave ((first ∷ rest) ++ more)
right_more leave first rest more right = right

pub not_behind : {T : Type 0} (front : List T) (page : T) (more : List T) → [] ≡ front ++ page ∷ more → ⊥
not_behind [] page more e = cc
not_behind (x ∷ front) page more e = cc

-- before the first page nothing was read
pub goes_on_at_first : (query : Query) (doc : StopsDoc) → GoesOnAfterEach query doc []
goes_on_at_first query doc front page more e over = not_behind front page more e

-- a page of a list with one page more is one of the list, or this one
record IsBefore (pages front : List Page) (taken : Page) : Type 0 where
  back : List Page
  are : pages ≡ front ++ taken ∷ back

stands_before : (pages front : List Page) (page taken next : Page) (more : List Page) → pages ++ page ∷ [] ≡ front ++ taken ∷ next ∷ more → IsBefore pages front taken
stands_before [] [] page taken next more e = (let nothing : [] ≡ next ∷ more = cc in absurd (cc))
stands_before [] (x ∷ front) page taken next more e =
    let nothing : [] ≡ front ++ taken ∷ next ∷ more = cc in
    absurd (not_behind front taken (next ∷ more) nothing)
stands_before (p ∷ pages) [] page taken next more e =
    let same : p ≡ taken = cc in
    record { back = pages; are = ap (λ (x : Page). x ∷ pages) same }
stands_before (p ∷ pages) (x ∷ front) page taken next more e =
    let same : p ≡ x = cc in
    let rest : pages ++ page ∷ [] ≡ front ++ taken ∷ next ∷ more = cc in
    let onward = stands_before pages front page taken next more rest in
    record { back = onward.back; are = ap₂ (λ (y : Page) (l : List Page). y ∷ l) same onward.are }

pub stands_last : {T : Type 0} (pages front : List T) (page taken : T) → pages ++ page ∷ [] ≡ front ++ taken ∷ [] → (pages ≡ front) × (page ≡ taken)
stands_last [] [] page taken e = let same : page ≡ taken = cc in (refl, same)
stands_last [] (x ∷ front) page taken e =
    let nothing : [] ≡ front ++ taken ∷ [] = cc in
    absurd (not_behind front taken [] nothing)
stands_last (p ∷ pages) [] page taken e =
    let nothing : [] ≡ pages ++ page ∷ [] = cc in
    absurd (not_behind pages page [] nothing)
stands_last {T} (p ∷ pages) (x ∷ front) page taken e =
    let same : p ≡ x = cc in
    let rest : pages ++ page ∷ [] ≡ front ++ taken ∷ [] = cc in
    let onward = stands_last pages front page taken rest in
    (ap₂ (λ (y : T) (l : List T). y ∷ l) same onward.0, onward.1)

-- it goes on after each, this one too
pub goes_on_more : (query : Query) (doc : StopsDoc) (pages : List Page) (page : Page) → GoesOnAfterEach query doc pages →
    (IsOver query doc (connections_in pages ++ page.list) page → ⊥) → GoesOnAfterEach query doc (pages ++ page ∷ [])
goes_on_more query doc pages page each this front taken [] e over =
    let ends = stands_last pages front page taken e in
    let P : List Page → Type 0 = λ l. IsOver query doc (connections_in l ++ taken.list) taken in
    let Q : Page → Type 0 = λ p. IsOver query doc (connections_in pages ++ p.list) p in
    this (subst Q (sym ends.1) (subst P (sym ends.0) over))
goes_on_more query doc pages page each this front taken (next ∷ more) e over =
    let before = stands_before pages front page taken next more e in
    each front taken before.back before.are over

-- a page that passes the tests of its reply: it has the name, goes on, and is valid
pub record IsTaken (name : PageName) (page : Page) : Type 0 where
  pub named : page.name ≡ name
  pub on : advances page ≡ true
  pub valid : IsValidPage page

both : (a b : Bool) → (a && b) ≡ true → (a ≡ true) × (b ≡ true)
both true true e = (refl, refl)
both true false e = absurd (cc)
both false b e = absurd (cc)

-- the page that is asked for has the name
is_named : (name : PageName) (memento : Option ℕ) (page : Page) → is_asked name memento page ≡ true → page.name ≡ name
is_named name memento page asked =
    let all = both ((page.name.version == name.version) && (page.name.departs == name.departs)) (is_of_version name.version memento) asked in
    let two = both (page.name.version == name.version) (page.name.departs == name.departs) all.0 in
    let version : page.name.version ≡ name.version = grind (arith, nat_tests, two.0) in
    let departs : page.name.departs ≡ name.departs = grind (arith, nat_tests, two.1) in
    ap₂ (λ (v d : ℕ). let n : PageName = record { version = v; departs = d } in n) version departs

by_tests : (name : PageName) (memento : Option ℕ) (page said : Page) (asked goes : Bool) → is_asked name memento said ≡ asked → advances said ≡ goes → IsValidPage said →
    Ok page ≡ (if not asked then Err Identity else (if not goes then Err Advance else Ok said)) → IsTaken name page
by_tests name memento page said false goes is_asked_so goes_so valid is = absurd (cc)
by_tests name memento page said true false is_asked_so goes_so valid is = absurd (cc)
by_tests name memento page said true true is_asked_so goes_so valid is =
    let same : page ≡ said = cc in
    subst (IsTaken name) (sym same) (record { named = is_named name memento said is_asked_so; on = goes_so; valid = valid })

by_body : (base : BaseParts) (name : PageName) (memento : Option ℕ) (bytes : List ℕ) (page : Page) (body : Result Page PageFault) → page_of_bytes base bytes body → Ok page ≡ tested_body name memento body → IsTaken name page
by_body base name memento bytes page (Ok said) read is = by_tests name memento page said (is_asked name memento said) (advances said) refl refl (valid_page_of_bytes base bytes said read) is
by_body base name memento bytes page (Err fault) read is = absurd (cc)

pub is_taken : (base : BaseParts) (name : PageName) (reply : List ℕ) (page : Page) → IsPageReply base name reply (Ok page) → IsTaken name page
is_taken base name reply page (Ok said, answered, says) = by_body base name said.memento (body_of reply said) page says.body says.read says.is
is_taken base name reply page (Err fault, answered, same) = absurd (cc)

-- the page to which it links departs later
pub links_later : (name next : PageName) (page : Page) → IsTaken name page → page.next ≡ Some next → name.departs < next.departs
links_later name next page taken links =
    let parts = both (begins_at page.list page.name.departs) (is_on_from (last_departure page.list) page.next) taken.on in
    let on : LeadsOn page.list next = leads_on page.list page.next next parts.1 links in
    let by : page.name.departs ≤ on.last = spans page.list page.name.departs on.last taken.valid.in_order parts.0 on.is_last in
    let above : on.last < next.departs = on.above in
    let here : page.name.departs < next.departs = omega arith in
    subst (λ (n : PageName). n.departs < next.departs) taken.named here

-- no link leads to a page from none
none_links : (more : List Made) (pages : List Page) (name : PageName) (base : BaseParts) → ReadsPages base None more pages → link_behind None pages ≡ Some name → ⊥
none_links [] [] name base reads links = cc
none_links [] (page ∷ pages) name base reads links = reads
none_links (made ∷ more) [] name base reads links = reads
none_links (made ∷ more) (page ∷ pages) name base reads links = reads

-- it was not for this page, nor for a later one
abbrev pub IsForEarlier : PageName → Made → Type 0
IsForEarlier name made = (earlier : PageName) → made.want ≡ wants.Page earlier → earlier.departs < name.departs

-- if it was for a page, those before were for none that departs as late
abbrev pub IsNew : List Made → Made → Type 0
IsNew front made = (name : PageName) → made.want ≡ wants.Page name → All (IsForEarlier name) front

-- each of these is new: where it is for a page, those before are for none that departs as late
abbrev pub AreNew : List Made → List Made → Type 0
AreNew front [] = Unit {0}
AreNew front (made ∷ more) = IsNew front made × AreNew (front ++ made ∷ []) more

pub new_more : (front made : List Made) (last : Made) → AreNew front made → IsNew (front ++ made) last → AreNew front (made ++ last ∷ [])
new_more front [] last are is = (subst (λ (l : List Made). IsNew l last) (append-nil front) is, tt)
new_more front (m ∷ made) last are is = (are.0, new_more (front ++ m ∷ []) made last are.1 (subst (λ (l : List Made). IsNew l last) (sym (append_assoc front (m ∷ []) made)) is))

-- pages that were read by their links up to this one are new
record ReadNew (front made : List Made) (name : PageName) : Type 0 where
  are : AreNew front made
  behind : All (IsForEarlier name) (front ++ made)

same_name : (a b : PageName) → wants.Page a ≡ wants.Page b → a ≡ b
same_name a b same = cc

-- a page, and those after it
module _ (base : BaseParts) (first name : PageName) (front : List Made) (made : Made) (more : List Made) (page : Page) (pages : List Page) (read : Reads base first made page) (reads : ReadsPages base page.next more pages)
    (links : link_behind page.next pages ≡ Some name) (before : All (IsForEarlier first) front)
    (rest : (next : PageName) → ReadsPages base (Some next) more pages → link_behind (Some next) pages ≡ Some name → All (IsForEarlier next) (front ++ made ∷ []) → ReadNew (front ++ made ∷ []) more name) where
  its_name : (other : PageName) → made.want ≡ wants.Page other → first ≡ other
  its_name other wanted = same_name first other (sym (ap (λ (m : Made). m.want) read.is) ∙ wanted)

  by_next : (next : Option PageName) → page.next ≡ next → ReadNew front (made ∷ more) name
  by_next None is =
      absurd
      (none_links more pages name base (subst (λ (n : Option PageName). ReadsPages base n more pages) is reads) (subst (λ (n : Option PageName). link_behind n pages ≡ Some name) is links))
  by_next (Some next) is =
      let on : first.departs < next.departs = links_later first next page (is_taken base first read.reply page read.says) is in
      let own : IsForEarlier next made = λ other wanted. subst (λ (n : PageName). n.departs < next.departs) (its_name other wanted) on in
      let all : All (IsForEarlier next) front = All-weaker (IsForEarlier first) (IsForEarlier next) (λ m earlier other wanted. (let lower = earlier other wanted in omega arith)) front before in
      let behind = rest next (subst (λ (n : Option PageName). ReadsPages base n more pages) is reads) (subst (λ (n : Option PageName). link_behind n pages ≡ Some name) is links)
      (All-push (IsForEarlier next) front made all own) in
      record {
        are = (λ other wanted. subst (λ (n : PageName). All (IsForEarlier n) front) (its_name other wanted) before, behind.are);
        behind = subst (All (IsForEarlier name)) (append_assoc front (made ∷ []) more) behind.behind;
      }

  behind_one : ReadNew front (made ∷ more) name
  behind_one = by_next page.next refl

read_new : (base : BaseParts) (first name : PageName) (front made : List Made) (pages : List Page) → ReadsPages base (Some first) made pages → link_behind (Some first) pages ≡ Some name → All (IsForEarlier first) front →
    ReadNew front made name
read_new base first name front [] [] reads links before =
    let same : first ≡ name = cc in
    record { are = tt; behind = subst (All (IsForEarlier name)) (sym (append-nil front)) (subst (λ (n : PageName). All (IsForEarlier n) front) same before) }
read_new base first name front [] (page ∷ pages) reads links before = absurd reads
read_new base first name front (made ∷ more) [] reads links before = absurd reads
read_new base first name front (made ∷ more) (page ∷ pages) (read, reads) links before =
    behind_one base first name front made more page pages read reads links before (λ next onward links_on earlier. read_new base next name (front ++ made ∷ []) more pages onward links_on earlier)

not_gate : (name : PageName) → wants.Gate ≡ wants.Page name → ⊥
not_gate name same = cc

not_stops : (name : PageName) → wants.Stops ≡ wants.Page name → ⊥
not_stops name same = cc

-- whatever a client wants now is new, and all that it received was
pub record WantsNew (made : List Made) (want : Want) : Type 0 where
  pub are : AreNew [] made
  pub is : (name : PageName) → want ≡ wants.Page name → All (IsForEarlier name) made

come_reading : (base : BaseParts) (query : Query) (version : Option ℕ) (made : List Made) (name : PageName) → IsReading base query version made name → WantsNew made (wants.Page name)
come_reading base query version made name came =
    let gate : Made = reply_to wants.Gate came.gate in
    let stops : Made = reply_to wants.Stops came.stops in
    let front : List Made = gate ∷ stops ∷ [] in
    let not_for : (n : PageName) → All (IsForEarlier n) front = λ n.
    All-cons (IsForEarlier n) gate (stops ∷ []) (λ earlier wanted. absurd (not_gate earlier wanted))
    (All-cons (IsForEarlier n) stops [] (λ earlier wanted. absurd (not_stops earlier wanted)) (All-nil (IsForEarlier n))) in
    let pages : ReadNew front came.for_pages name = read_new base came.first name front came.for_pages came.pages came.reads came.links (not_for came.first) in
    record {
      are = subst (AreNew []) (sym came.was_made) (λ n wanted. absurd (not_gate n wanted), (λ n wanted. absurd (not_stops n wanted), pages.are));
      is = λ n same. subst (All (IsForEarlier n)) (sym came.was_made) (subst (λ (x : PageName). All (IsForEarlier x) (front ++ came.for_pages)) (same_name name n same) pages.behind);
    }

pub come_new : (base : BaseParts) (query : Query) (version : Option ℕ) (made : List Made) (want : Want) → WantsAfter base query version made want → WantsNew made want
come_new base query version made wants.Gate came = record { are = subst (AreNew []) (sym came.nothing_made) tt; is = λ name same. absurd (not_gate name same) }
come_new base query version made wants.Stops came =
    record { are = subst (AreNew []) (sym came.was_made) (λ name wanted. absurd (not_gate name wanted), tt); is = λ name same. absurd (not_stops name same) }
come_new base query version made (wants.Page name) came = come_reading base query version made name came
come_new base query version made wants.Finished came = absurd came
