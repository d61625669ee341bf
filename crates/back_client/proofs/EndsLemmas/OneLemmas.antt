-- By the replies that it got a question for the latest departure ends in one way.
use Rattle.std.proofs.Common.{◌≡◌, ℕ, ◌≤◌, inl, inr, List, [], ◌∷◌, ◌++◌, Bool, true, false, length, Option, Some, None, Result, Ok, Err, refl, ap, sym, subst, ◌∙◌, arith}
use Rattle.std.specs.Prelude.{◌⊎◌}
use Rattle.std.proofs.lemmas.List.{map-append}
use Rattle.lc_model.specs.Journey.{leaves_at}
use Rattle.lc_model.specs.Stop.{HasStop}
use Rattle.lc_model.specs.declared.connection.Connection.{Connection}
use Rattle.lc_model.specs.declared.doc.StopsDoc.{StopsDoc}
use Rattle.lc_model.specs.declared.journey.Journey.{Journey}
use Rattle.lc_model.specs.declared.page.PageName.{PageName}
use Rattle.lc_model.specs.declared.query.Query.{Query}
use Rattle.connection_uri.specs.Base.{BaseParts}
use Rattle.lc_world.specs.Link.{LinkSeen}
use Rattle.page_json.specs.declared.page.Page.{Page}
use Rattle.page_client.specs.Gate.{IsGateReply}
use Rattle.page_client.specs.Page.{IsPageReply}
use Rattle.page_client.specs.Shown.{answered}
use Rattle.page_client.specs.Stops.{IsStopsReply}
use Rattle.page_client.specs.declared.fault.PeerFault.{PeerFault}
use Rattle.page_client.specs.declared.fault.PeerFault.TheVariants.{GateWrong, Retreat}
use Rattle.page_client.specs.declared.fault.QueryFault.{QueryFault}
use Rattle.page_client.specs.declared.fault.QueryFault.TheVariants.{HorizonRange, SameStop, UnknownFrom, UnknownTo}
use Rattle.page_client.specs.declared.outcome.Outcome.{Outcome}
use Rattle.page_client.specs.declared.outcome.Outcome.TheVariants as outcomes
use Rattle.page_client.specs.declared.want.Want.{Want}
use Rattle.page_client.specs.declared.want.Want.TheVariants as wants
use Rattle.page_client.proofs.OneReplyLemmas.{one_gate_reply, one_page_reply, one_stops_reply}
use Rattle.back_scan.specs.Forward.{forward_query}
use Rattle.back_scan.specs.StandsFor.{IsLatestChain}
use Rattle.back_scan.specs.declared.arrive_query.ArriveQuery.{ArriveQuery}
use Rattle.back_client.specs.Wrong.{is_off, retreats}
use Rattle.back_client.specs.declared.page.Place.TheVariants.{First}
use Rattle.convoy.specs.Replies.Course.{IsSentOn}
use Rattle.convoy.specs.Replies.Ends.{FailsTest, IsRefusedAtOnce}
use Rattle.convoy.specs.Replies.Laws.{replies_of}
use Rattle.convoy.specs.Replies.Made.{Made, reply_to}
use Rattle.convoy.proofs.RepliesLemmas.CourseLemmas.{not_behind, stands_last}
use Rattle.back_client.specs.Ends.Back.{IsReadingBack, IsSentRight, PassesTests, ReadsBack, WantsBackAfter, connections_back, gate_query, link_back, place_back}
use Rattle.back_client.specs.Ends.Ends.{EndsBackBy, HasAnsweredLatest}
use Rattle.back_client.specs.Ends.ReplyLaws.{OneLatestByReplies, SayOneLatest}

-- an exchange of a want is known by its reply
one_got : (want : Want) (m n : Made) (a b : List ℕ) → m ≡ reply_to want a → n ≡ reply_to want b → m.got ≡ n.got → (a ≡ b) × (m ≡ n)
one_got want m n a b is_m is_n same =
    let got : Some a ≡ Some b = sym (ap (λ (x : Made). x.got) is_m) ∙ same ∙ ap (λ (x : Made). x.got) is_n in
    let reply : a ≡ b = cc in
    (reply, is_m ∙ ap (reply_to want) reply ∙ sym is_n)

-- what was got says one list of pages, by one list of exchanges
record SamePages (made_a made_b : List Made) (a b : List Page) : Type 0 where
  made : made_a ≡ made_b
  pages : a ≡ b

one_list_of_pages : (base : BaseParts) (link : Option PageName) (made_a made_b : List Made) (a b : List Page) → replies_of made_a ≡ replies_of made_b → ReadsBack base link made_a a → ReadsBack base link made_b b → SamePages made_a made_b a b
one_list_of_pages base link [] [] [] [] same x y = record { made = refl; pages = refl }
one_list_of_pages base link [] [] [] (q ∷ b) same x y = absurd y
one_list_of_pages base link [] made_b (p ∷ a) b same x y = absurd x
one_list_of_pages base link [] (n ∷ made_b) [] b same x y = absurd (cc)
one_list_of_pages base link (m ∷ made_a) [] a b same x y = absurd (cc)
one_list_of_pages base link (m ∷ made_a) (n ∷ made_b) [] b same x y = absurd x
one_list_of_pages base link (m ∷ made_a) (n ∷ made_b) (p ∷ a) [] same x y = absurd y
one_list_of_pages base None (m ∷ made_a) (n ∷ made_b) (p ∷ a) (q ∷ b) same x y = absurd x
one_list_of_pages base (Some name) (m ∷ made_a) (n ∷ made_b) (p ∷ a) (q ∷ b) same x y =
    let first : m.got ≡ n.got = cc in
    let rest : replies_of made_a ≡ replies_of made_b = cc in
    let one = one_got (wants.Page name) m n x.0.reply y.0.reply x.0.is y.0.is first in
    let says : IsPageReply base name y.0.reply (Ok p) = subst (λ (r : List ℕ). IsPageReply base name r (Ok p)) one.0 x.0.says in
    let result : Ok p ≡ Ok q = one_page_reply base name y.0.reply (Ok p) (Ok q) says y.0.says in
    let page : p ≡ q = cc in
    let behind : ReadsBack base p.previous made_b b = subst (λ (r : Page). ReadsBack base r.previous made_b b) (sym page) y.1 in
    let more = one_list_of_pages base p.previous made_a made_b a b rest x.1 behind in
    record {
      made = ap (λ (k : Made). k ∷ made_a) one.1 ∙ ap (λ (l : List Made). n ∷ l) more.made;
      pages = ap (λ (r : Page). r ∷ a) page ∙ ap (λ (l : List Page). q ∷ l) more.pages;
    }

-- the time gate sends to one page
one_first : (base : BaseParts) (leave : ℕ) (gate_a gate_b : List ℕ) (first_a first_b : PageName) → IsGateReply base leave gate_a (Ok first_a) → IsGateReply base leave gate_b (Ok first_b) → gate_a ≡ gate_b → first_a ≡ first_b
one_first base leave gate_a gate_b first_a first_b x y same =
    let result : Ok first_a ≡ Ok first_b = one_gate_reply base leave gate_b (Ok first_a) (Ok first_b) (subst (λ (g : List ℕ). IsGateReply base leave g (Ok first_a)) same x) y in
    cc

-- what was read is one
record SameReading {base : BaseParts} {asked : ArriveQuery} {version_a version_b : Option ℕ} {made_a made_b : List Made} {name_a name_b : PageName} (a : IsReadingBack base asked version_a made_a name_a)
    (b : IsReadingBack base asked version_b made_b name_b) : Type 0 where
  made : made_a ≡ made_b
  name : name_a ≡ name_b
  version : version_a ≡ version_b
  gate : a.gate ≡ b.gate
  doc : a.doc ≡ b.doc
  pages : a.pages ≡ b.pages

-- what was made before is one
record SameCourse (made_a made_b : List Made) (version_a version_b : Option ℕ) (want_a want_b : Want) : Type 0 where
  made : made_a ≡ made_b
  version : version_a ≡ version_b
  want : want_a ≡ want_b

module _ (base : BaseParts) (asked : ArriveQuery) (version_a version_b : Option ℕ) (made_a made_b : List Made) (same : replies_of made_a ≡ replies_of made_b) where
  one_sent_on : IsSentOn base (gate_query asked) version_a made_a → IsSentOn base (gate_query asked) version_b made_b → SameCourse made_a made_b version_a version_b wants.Stops wants.Stops
  one_sent_on a b =
      let gots : Some a.gate ∷ [] ≡ Some b.gate ∷ [] = sym (ap replies_of a.was_made) ∙ same ∙ ap replies_of b.was_made in
      let gate : a.gate ≡ b.gate = cc in
      let first = one_first base asked.arrive a.gate b.gate a.first b.first a.sends b.sends gate in
      record {
        made = a.was_made ∙ ap (λ (g : List ℕ). reply_to wants.Gate g ∷ []) gate ∙ sym b.was_made;
        version = a.at_version ∙ ap (λ (n : PageName). Some n.version) first ∙ sym b.at_version;
        want = refl;
      }

  one_reading : (name_a name_b : PageName) (a : IsReadingBack base asked version_a made_a name_a) (b : IsReadingBack base asked version_b made_b name_b) → SameReading a b
  one_reading name_a name_b a b =
      let gots : Some a.gate ∷ Some a.stops ∷ replies_of a.for_pages ≡ Some b.gate ∷ Some b.stops ∷ replies_of b.for_pages = sym (ap replies_of a.was_made) ∙ same ∙ ap replies_of b.was_made in
      let gate : a.gate ≡ b.gate = cc in
      let stops : a.stops ≡ b.stops = cc in
      let rests : replies_of a.for_pages ≡ replies_of b.for_pages = cc in
      let first = one_first base asked.arrive a.gate b.gate a.first b.first a.sends b.sends gate in
      let result : Ok a.doc ≡ Ok b.doc = one_stops_reply b.stops (Ok a.doc) (Ok b.doc) (subst (λ (r : List ℕ). IsStopsReply r (Ok a.doc)) stops a.says_stops) b.says_stops in
      let by_first : ReadsBack base (Some b.first) a.for_pages a.pages = subst (λ (n : PageName). ReadsBack base (Some n) a.for_pages a.pages) first a.reads in
      let one = one_list_of_pages base (Some b.first) a.for_pages b.for_pages a.pages b.pages rests by_first b.reads in
      let named : Some name_a ≡ Some name_b =
      sym a.links ∙ ap (λ (n : PageName). link_back (Some n) a.pages) first ∙ ap (link_back (Some b.first)) one.pages ∙ b.links in
      record {
        made =
            a.was_made ∙ ap (λ (g : List ℕ). reply_to wants.Gate g ∷ reply_to wants.Stops a.stops ∷ a.for_pages) gate
            ∙ ap (λ (r : List ℕ). reply_to wants.Gate b.gate ∷ reply_to wants.Stops r ∷ a.for_pages) stops
            ∙ ap (λ (l : List Made). reply_to wants.Gate b.gate ∷ reply_to wants.Stops b.stops ∷ l) one.made ∙ sym b.was_made;
        name = cc;
        version = a.at_version ∙ ap (λ (n : PageName). Some n.version) first ∙ sym b.at_version;
        gate = gate;
        doc = cc;
        pages = one.pages;
      }

  -- it wants one thing
  one_course : (want_a want_b : Want) → WantsBackAfter base asked version_a made_a want_a → WantsBackAfter base asked version_b made_b want_b → SameCourse made_a made_b version_a version_b want_a want_b
  one_course wants.Gate wants.Gate a b = record { made = a.nothing_made ∙ sym b.nothing_made; version = a.no_version ∙ sym b.no_version; want = refl }
  one_course wants.Gate wants.Stops a b = (let none : [] ≡ Some b.gate ∷ [] = sym (ap replies_of a.nothing_made) ∙ same ∙ ap replies_of b.was_made in absurd (cc))
  one_course wants.Gate (wants.Page name) a b =
      (let none : [] ≡ Some b.gate ∷ Some b.stops ∷ replies_of b.for_pages = sym (ap replies_of a.nothing_made) ∙ same ∙ ap replies_of b.was_made in absurd (cc))
  one_course wants.Gate wants.Finished a b = absurd b
  one_course wants.Stops wants.Gate a b = (let none : Some a.gate ∷ [] ≡ [] = sym (ap replies_of a.was_made) ∙ same ∙ ap replies_of b.nothing_made in absurd (cc))
  one_course wants.Stops wants.Stops a b = one_sent_on a b
  one_course wants.Stops (wants.Page name) a b =
      let gots : Some a.gate ∷ [] ≡ Some b.gate ∷ Some b.stops ∷ replies_of b.for_pages = sym (ap replies_of a.was_made) ∙ same ∙ ap replies_of b.was_made in
      let none : [] ≡ Some b.stops ∷ replies_of b.for_pages = cc in
      absurd (cc)
  one_course wants.Stops wants.Finished a b = absurd b
  one_course (wants.Page name) wants.Gate a b =
      (let none : Some a.gate ∷ Some a.stops ∷ replies_of a.for_pages ≡ [] = sym (ap replies_of a.was_made) ∙ same ∙ ap replies_of b.nothing_made in absurd (cc))
  one_course (wants.Page name) wants.Stops a b =
      let gots : Some a.gate ∷ Some a.stops ∷ replies_of a.for_pages ≡ Some b.gate ∷ [] = sym (ap replies_of a.was_made) ∙ same ∙ ap replies_of b.was_made in
      let none : Some a.stops ∷ replies_of a.for_pages ≡ [] = cc in
      absurd (cc)
  one_course (wants.Page name_a) (wants.Page name_b) a b =
      let read = one_reading name_a name_b a b in
      record { made = read.made; version = read.version; want = ap wants.Page read.name }
  one_course (wants.Page name) wants.Finished a b = absurd b
  one_course wants.Finished want_b a b = absurd a

-- the link failed
record ByFault (outcome : Outcome) : Type 0 where
  count : ℕ
  later : ℕ
  is : outcome ≡ outcomes.LinkFault count later

-- the time gate's reply fails a test
record ByGate (base : BaseParts) (asked : ArriveQuery) (reply : List ℕ) (outcome : Outcome) : Type 0 where
  fault : PeerFault
  fails : IsGateReply base asked.arrive reply (Err fault)
  is : outcome ≡ outcomes.PeerWrong reply fault

-- the stops document lacks an end, or its reply fails a test
abbrev AfterDoc : ArriveQuery → List ℕ → Result StopsDoc PeerFault → Outcome → Type 0
AfterDoc asked reply (Err fault) outcome = outcome ≡ outcomes.PeerWrong reply fault
AfterDoc asked reply (Ok doc) outcome =
    ((HasStop doc.stops asked.from → ⊥) × (outcome ≡ outcomes.Refused UnknownFrom)) ⊎ (HasStop doc.stops asked.from × (HasStop doc.stops asked.to → ⊥) × (outcome ≡ outcomes.Refused UnknownTo))

record ByStops (asked : ArriveQuery) (reply : List ℕ) (outcome : Outcome) : Type 0 where
  said : Result StopsDoc PeerFault
  says : IsStopsReply reply said
  after : AfterDoc asked reply said outcome

-- the time gate was wrong to send to the page
record ByOff (asked : ArriveQuery) (gate : List ℕ) (pages : List Page) (page : Page) (outcome : Outcome) : Type 0 where
  none_before : pages ≡ []
  off : is_off asked.arrive page ≡ true
  is : outcome ≡ outcomes.PeerWrong gate (GateWrong page)

-- or the page does not lead back
record ByRetreat (asked : ArriveQuery) (gate : List ℕ) (pages : List Page) (page : Page) (reply : List ℕ) (outcome : Outcome) : Type 0 where
  sent : IsSentRight asked.arrive (place_back (First gate) pages) page
  not_back : retreats (place_back (First gate) pages) page ≡ true
  is : outcome ≡ outcomes.PeerWrong reply Retreat

-- or it is the last
record ByLatest (asked : ArriveQuery) (gate : List ℕ) (doc : StopsDoc) (pages : List Page) (page : Page) (outcome : Outcome) : Type 0 where
  passes : PassesTests asked.arrive (place_back (First gate) pages) page
  journey : Option Journey
  latest : IsLatestChain (forward_query asked) doc (page.list ++ connections_back pages) journey
  is : outcome ≡ answered journey

abbrev AfterPage : ArriveQuery → List ℕ → StopsDoc → List Page → List ℕ → Result Page PeerFault → Outcome → Type 0
AfterPage asked gate doc pages reply (Err fault) outcome = outcome ≡ outcomes.PeerWrong reply fault
AfterPage asked gate doc pages reply (Ok page) outcome = ByOff asked gate pages page outcome ⊎ ByRetreat asked gate pages page reply outcome ⊎ ByLatest asked gate doc pages page outcome

record ByPage (base : BaseParts) (asked : ArriveQuery) (name : PageName) (gate : List ℕ) (doc : StopsDoc) (pages : List Page) (reply : List ℕ) (outcome : Outcome) : Type 0 where
  said : Result Page PeerFault
  says : IsPageReply base name reply said
  after : AfterPage asked gate doc pages reply said outcome

-- what the last exchange says
abbrev Says : (base : BaseParts) (asked : ArriveQuery) (version : Option ℕ) (earlier : List Made) (want : Want) → WantsBackAfter base asked version earlier want → Option (List ℕ) → Outcome → Type 0
Says base asked version earlier want came None outcome = ByFault outcome
Says base asked version earlier wants.Gate came (Some reply) outcome = ByGate base asked reply outcome
Says base asked version earlier wants.Stops came (Some reply) outcome = ByStops asked reply outcome
Says base asked version earlier (wants.Page name) came (Some reply) outcome = ByPage base asked name came.gate came.doc came.pages reply outcome
Says base asked version earlier wants.Finished came (Some reply) outcome = ⊥

-- it ended by its last exchange
record ByLast (base : BaseParts) (asked : ArriveQuery) (version : Option ℕ) (made : List Made) (outcome : Outcome) : Type 0 where
  earlier : List Made
  want : Want
  got : Option (List ℕ)
  came : WantsBackAfter base asked version earlier want
  was_made : made ≡ earlier ++ record { want = want; got = got } ∷ []
  says : Says base asked version earlier want came got outcome

-- or by its question alone
record ByQuestion (asked : ArriveQuery) (version : Option ℕ) (made : List Made) (outcome : Outcome) : Type 0 where
  fault : QueryFault
  at_once : IsRefusedAtOnce (gate_query asked) version made fault
  is : outcome ≡ outcomes.Refused fault

fails_at : (base : BaseParts) (asked : ArriveQuery) (version : Option ℕ) (earlier : List Made) (want : Want) (came : WantsBackAfter base asked version earlier want) (reply : List ℕ) (fault : PeerFault) →
    FailsTest base (gate_query asked) want reply fault → Says base asked version earlier want came (Some reply) (outcomes.PeerWrong reply fault)
fails_at base asked version earlier wants.Gate came reply fault fails = record { fault = fault; fails = fails; is = refl }
fails_at base asked version earlier wants.Stops came reply fault fails = record { said = Err fault; says = fails; after = refl }
fails_at base asked version earlier (wants.Page name) came reply fault fails = record { said = Err fault; says = fails; after = refl }
fails_at base asked version earlier wants.Finished came reply fault fails = absurd came

module _ (base : BaseParts) (asked : ArriveQuery) (before now : ℕ) (version : Option ℕ) (made : List Made) where
  by_answer : (journey : Option Journey) → HasAnsweredLatest base asked version made journey → ByLast base asked version made (answered journey)
  by_answer journey e = record {
    earlier = e.earlier;
    want = wants.Page e.name;
    got = Some e.reply;
    came = e.came;
    was_made = e.was_made;
    says = record { said = Ok e.page; says = e.says; after = inr (inr (record { passes = e.passes; journey = journey; latest = e.latest; is = refl })) };
  }

  by_what : (outcome : Outcome) → EndsBackBy base asked before now version made outcome → ByQuestion asked version made outcome ⊎ ByLast base asked version made outcome
  by_what (outcomes.Found journey) e = inr (by_answer (Some journey) e)
  by_what outcomes.NoJourney e = inr (by_answer None e)
  by_what (outcomes.Refused HorizonRange) e = inl (record { fault = HorizonRange; at_once = e; is = refl })
  by_what (outcomes.Refused SameStop) e = inl (record { fault = SameStop; at_once = e; is = refl })
  by_what (outcomes.Refused UnknownFrom) e =
      inr (record {
        earlier = e.read.earlier;
        want = wants.Stops;
        got = Some e.read.reply;
        came = e.read.came;
        was_made = e.read.was_made;
        says = record { said = Ok e.doc; says = e.read.says; after = inl (e.no_from, refl) };
      })
  by_what (outcomes.Refused UnknownTo) e =
      inr (record {
        earlier = e.read.earlier;
        want = wants.Stops;
        got = Some e.read.reply;
        came = e.read.came;
        was_made = e.read.was_made;
        says = record { said = Ok e.doc; says = e.read.says; after = inr (e.from, e.no_to, refl) };
      })
  by_what (outcomes.LinkFault count later) e =
      inr (record { earlier = e.earlier; want = e.want; got = None; came = e.came; was_made = e.was_made; says = record { count = count; later = later; is = refl } })
  by_what (outcomes.PeerWrong reply fault) (inl e) =
      inr (record {
        earlier = e.earlier;
        want = e.want;
        got = Some reply;
        came = e.came;
        was_made = e.was_made;
        says = fails_at base asked version e.earlier e.want e.came reply fault e.fails;
      })
  by_what (outcomes.PeerWrong reply fault) (inr (inl e)) =
      let is : outcomes.PeerWrong reply fault ≡ outcomes.PeerWrong e.came.gate (GateWrong e.page) = ap (λ (r : List ℕ). outcomes.PeerWrong r fault) e.by_gate ∙ ap (outcomes.PeerWrong e.came.gate) e.fault_is in
      inr (record {
        earlier = e.earlier;
        want = wants.Page e.name;
        got = Some e.last;
        came = e.came;
        was_made = e.was_made;
        says = record { said = Ok e.page; says = e.says; after = inl (record { none_before = e.none_before; off = e.off; is = is }) };
      })
  by_what (outcomes.PeerWrong reply fault) (inr (inr e)) =
      inr (record {
        earlier = e.earlier;
        want = wants.Page e.name;
        got = Some reply;
        came = e.came;
        was_made = e.was_made;
        says = record { said = Ok e.page; says = e.says; after = inr (inl (record { sent = e.sent; not_back = e.not_back; is = ap (outcomes.PeerWrong reply) e.fault_is })) };
      })

-- outcomes that are these say the same where these do
same_by : (a b x y : Outcome) → a ≡ x → b ≡ y → SayOneLatest x y → SayOneLatest a b
same_by a b x y is_x is_y same = subst (λ (o : Outcome). SayOneLatest o b) (sym is_x) (subst (SayOneLatest x) (sym is_y) same)

-- a latest chain has one departure
one_latest : (query : Query) (doc : StopsDoc) (list : List Connection) (a b : Option Journey) → IsLatestChain query doc list a → IsLatestChain query doc list b → SayOneLatest (answered a) (answered b)
one_latest query doc list None None x y = tt
one_latest query doc list None (Some b) x y = absurd (x b y.is_journey)
one_latest query doc list (Some a) None x y = absurd (y a x.is_journey)
one_latest query doc list (Some a) (Some b) x y =
    let one : leaves_at b ≤ leaves_at a = x.is_latest b y.is_journey in
    let other : leaves_at a ≤ leaves_at b = y.is_latest a x.is_journey in
    omega arith

not_both : (t : Bool) → t ≡ true → t ≡ false → ⊥
not_both t e f = let both : true ≡ false = sym e ∙ f in cc

module _ (asked : ArriveQuery) (a b : Outcome) where
  one_stops : (reply : List ℕ) (said : Result StopsDoc PeerFault) → AfterDoc asked reply said a → AfterDoc asked reply said b → SayOneLatest a b
  one_stops reply (Err fault) x y = same_by a b (outcomes.PeerWrong reply fault) (outcomes.PeerWrong reply fault) x y (refl, refl)
  one_stops reply (Ok doc) (inl (no_from, x)) (inl (no_from', y)) = same_by a b (outcomes.Refused UnknownFrom) (outcomes.Refused UnknownFrom) x y refl
  one_stops reply (Ok doc) (inl (no_from, x)) (inr (from, no_to, y)) = absurd (no_from from)
  one_stops reply (Ok doc) (inr (from, no_to, x)) (inl (no_from, y)) = absurd (no_from from)
  one_stops reply (Ok doc) (inr (from, no_to, x)) (inr (from', no_to', y)) = same_by a b (outcomes.Refused UnknownTo) (outcomes.Refused UnknownTo) x y refl

  -- a page is not off and right
  off_or_right : (gate : List ℕ) (pages : List Page) (page : Page) → pages ≡ [] → is_off asked.arrive page ≡ true → IsSentRight asked.arrive (place_back (First gate) pages) page → ⊥
  off_or_right gate pages page none off right = not_both (is_off asked.arrive page) off (subst (λ (l : List Page). IsSentRight asked.arrive (place_back (First gate) l) page) none right)

  one_page : (gate : List ℕ) (doc : StopsDoc) (pages : List Page) (reply : List ℕ) (said : Result Page PeerFault) → AfterPage asked gate doc pages reply said a → AfterPage asked gate doc pages reply said b → SayOneLatest a b
  one_page gate doc pages reply (Err fault) x y = same_by a b (outcomes.PeerWrong reply fault) (outcomes.PeerWrong reply fault) x y (refl, refl)
  one_page gate doc pages reply (Ok page) (inl x) (inl y) = same_by a b (outcomes.PeerWrong gate (GateWrong page)) (outcomes.PeerWrong gate (GateWrong page)) x.is y.is (refl, refl)
  one_page gate doc pages reply (Ok page) (inl x) (inr (inl y)) = absurd (off_or_right gate pages page x.none_before x.off y.sent)
  one_page gate doc pages reply (Ok page) (inl x) (inr (inr y)) = absurd (off_or_right gate pages page x.none_before x.off y.passes.sent)
  one_page gate doc pages reply (Ok page) (inr (inl x)) (inl y) = absurd (off_or_right gate pages page y.none_before y.off x.sent)
  one_page gate doc pages reply (Ok page) (inr (inl x)) (inr (inl y)) = same_by a b (outcomes.PeerWrong reply Retreat) (outcomes.PeerWrong reply Retreat) x.is y.is (refl, refl)
  one_page gate doc pages reply (Ok page) (inr (inl x)) (inr (inr y)) = absurd (not_both (retreats (place_back (First gate) pages) page) x.not_back y.passes.back)
  one_page gate doc pages reply (Ok page) (inr (inr x)) (inl y) = absurd (off_or_right gate pages page y.none_before y.off x.passes.sent)
  one_page gate doc pages reply (Ok page) (inr (inr x)) (inr (inl y)) = absurd (not_both (retreats (place_back (First gate) pages) page) y.not_back x.passes.back)
  one_page gate doc pages reply (Ok page) (inr (inr x)) (inr (inr y)) =
      same_by a b (answered x.journey) (answered y.journey) x.is y.is (one_latest (forward_query asked) doc (page.list ++ connections_back pages) x.journey y.journey x.latest y.latest)

-- the last exchange says one thing
module _ (base : BaseParts) (asked : ArriveQuery) (version_a version_b : Option ℕ) (earlier : List Made) (a b : Outcome) where
  one_said : (want : Want) (got : Option (List ℕ)) (came_a : WantsBackAfter base asked version_a earlier want) (came_b : WantsBackAfter base asked version_b earlier want) →
      Says base asked version_a earlier want came_a got a → Says base asked version_b earlier want came_b got b → SayOneLatest a b
  one_said want None x y says_a says_b = same_by a b (outcomes.LinkFault says_a.count says_a.later) (outcomes.LinkFault says_b.count says_b.later) says_a.is says_b.is tt
  one_said wants.Finished (Some reply) x y says_a says_b = absurd x
  one_said wants.Gate (Some reply) x y says_a says_b =
      let result : Err says_a.fault ≡ Err says_b.fault = one_gate_reply base asked.arrive reply (Err says_a.fault) (Err says_b.fault) says_a.fails says_b.fails in
      let fault : says_a.fault ≡ says_b.fault = cc in
      same_by a b (outcomes.PeerWrong reply says_a.fault) (outcomes.PeerWrong reply says_b.fault) says_a.is says_b.is (refl, fault)
  one_said wants.Stops (Some reply) x y says_a says_b =
      let same : says_b.said ≡ says_a.said = one_stops_reply reply says_b.said says_a.said says_b.says says_a.says in
      one_stops asked a b reply says_a.said says_a.after (subst (λ (s : Result StopsDoc PeerFault). AfterDoc asked reply s b) same says_b.after)
  one_said (wants.Page name) (Some reply) x y says_a says_b =
      let read = one_reading base asked version_a version_b earlier earlier refl name name x y in
      let same : says_b.said ≡ says_a.said = one_page_reply base name reply says_b.said says_a.said says_b.says says_a.says in
      let by_said : AfterPage asked y.gate y.doc y.pages reply says_a.said b = subst (λ (s : Result Page PeerFault). AfterPage asked y.gate y.doc y.pages reply s b) same says_b.after in
      let by_gate : AfterPage asked x.gate y.doc y.pages reply says_a.said b = subst (λ (g : List ℕ). AfterPage asked g y.doc y.pages reply says_a.said b) (sym read.gate) by_said in
      let by_doc : AfterPage asked x.gate x.doc y.pages reply says_a.said b = subst (λ (d : StopsDoc). AfterPage asked x.gate d y.pages reply says_a.said b) (sym read.doc) by_gate in
      let by_pages : AfterPage asked x.gate x.doc x.pages reply says_a.said b = subst (λ (l : List Page). AfterPage asked x.gate x.doc l reply says_a.said b) (sym read.pages) by_doc in
      one_page asked a b x.gate x.doc x.pages reply says_a.said says_a.after by_pages

-- of the refusals at once one is deserved
one_refusal : (query : Query) (version_a version_b : Option ℕ) (made_a made_b : List Made) (a b : QueryFault) → IsRefusedAtOnce query version_a made_a a → IsRefusedAtOnce query version_b made_b b → a ≡ b
one_refusal query version_a version_b made_a made_b HorizonRange HorizonRange x y = refl
one_refusal query version_a version_b made_a made_b HorizonRange SameStop x y = absurd (x.deserved y.deserved.0)
one_refusal query version_a version_b made_a made_b SameStop HorizonRange x y = absurd (y.deserved x.deserved.0)
one_refusal query version_a version_b made_a made_b SameStop SameStop x y = refl
one_refusal query version_a version_b made_a made_b UnknownFrom b x y = absurd x.deserved
one_refusal query version_a version_b made_a made_b UnknownTo b x y = absurd x.deserved
one_refusal query version_a version_b made_a made_b HorizonRange UnknownFrom x y = absurd y.deserved
one_refusal query version_a version_b made_a made_b HorizonRange UnknownTo x y = absurd y.deserved
one_refusal query version_a version_b made_a made_b SameStop UnknownFrom x y = absurd y.deserved
one_refusal query version_a version_b made_a made_b SameStop UnknownTo x y = absurd y.deserved

-- what was got, with one exchange more
got_more : (earlier made : List Made) (want : Want) (got : Option (List ℕ)) → made ≡ earlier ++ record { want = want; got = got } ∷ [] → replies_of made ≡ replies_of earlier ++ got ∷ []
got_more earlier made want got is = ap replies_of is ∙ map-append (λ (m : Made). m.got) earlier (record { want = want; got = got } ∷ [])

-- what is one of two ends
record OneEnded (made_a made_b : List Made) (version_a version_b : Option ℕ) (a b : Outcome) : Type 0 where
  made : made_a ≡ made_b
  version : version_a ≡ version_b
  outcome : SayOneLatest a b

module _ (base : BaseParts) (asked : ArriveQuery) (version_a version_b : Option ℕ) (made_a made_b : List Made) (a b : Outcome) (same : replies_of made_a ≡ replies_of made_b) where
  by_last : ByLast base asked version_a made_a a → ByLast base asked version_b made_b b → OneEnded made_a made_b version_a version_b a b
  by_last x y =
      let parts = stands_last (replies_of x.earlier) (replies_of y.earlier) x.got y.got (sym (got_more x.earlier made_a x.want x.got x.was_made) ∙ same ∙ got_more y.earlier made_b y.want y.got y.was_made) in
      let course = one_course base asked version_a version_b x.earlier y.earlier parts.0 x.want y.want x.came y.came in
      let P : List Made → Want → Option (List ℕ) → Type 0 = λ l w g. (came : WantsBackAfter base asked version_b l w) → Says base asked version_b l w came g b → SayOneLatest a b in
      let there : P x.earlier x.want x.got = λ came says. one_said base asked version_a version_b x.earlier a b x.want x.got x.came came x.says says in
      let by_got : P x.earlier x.want y.got = subst (P x.earlier x.want) parts.1 there in
      let by_want : P x.earlier y.want y.got = subst (λ (w : Want). P x.earlier w y.got) course.want by_got in
      let by_earlier : P y.earlier y.want y.got = subst (λ (l : List Made). P l y.want y.got) course.made by_want in
      record {
        made =
            x.was_made ∙ ap (λ (l : List Made). l ++ record { want = x.want; got = x.got } ∷ []) course.made
            ∙ ap (λ (w : Want). y.earlier ++ record { want = w; got = x.got } ∷ []) course.want
            ∙ ap (λ (g : Option (List ℕ)). y.earlier ++ record { want = y.want; got = g } ∷ []) parts.1 ∙ sym y.was_made;
        version = course.version;
        outcome = by_earlier y.came y.says;
      }

  by_both : ByQuestion asked version_a made_a a ⊎ ByLast base asked version_a made_a a → ByQuestion asked version_b made_b b ⊎ ByLast base asked version_b made_b b → OneEnded made_a made_b version_a version_b a b
  by_both (inl x) (inl y) = record {
    made = x.at_once.nothing_made ∙ sym y.at_once.nothing_made;
    version = x.at_once.no_version ∙ sym y.at_once.no_version;
    outcome = same_by a b (outcomes.Refused x.fault) (outcomes.Refused y.fault) x.is y.is (one_refusal (gate_query asked) version_a version_b made_a made_b x.fault y.fault x.at_once y.at_once);
  }
  by_both (inl x) (inr y) = absurd (not_behind (replies_of y.earlier) y.got [] (sym (ap replies_of x.at_once.nothing_made) ∙ same ∙ got_more y.earlier made_b y.want y.got y.was_made))
  by_both (inr x) (inl y) = absurd (not_behind (replies_of x.earlier) x.got [] (sym (ap replies_of y.at_once.nothing_made) ∙ sym same ∙ got_more x.earlier made_a x.want x.got x.was_made))
  by_both (inr x) (inr y) = by_last x y

pub one_latest_by_replies : {X Y : Type 0} (seen : X → LinkSeen) (saw : Y → LinkSeen) → OneLatestByReplies seen saw
one_latest_by_replies seen saw base asked before after other later version_a version_b exchanges_a exchanges_b a b x y same =
    let one =
    by_both base asked version_a version_b x.made y.made a b same (by_what base asked (seen before).faults (seen after).faults version_a x.made a x.ends)
    (by_what base asked (saw other).faults (saw later).faults version_b y.made b y.ends) in
    record {
      made = one.made;
      version = one.version;
      exchanges = x.counted ∙ ap (λ (l : List Made). length l) one.made ∙ sym y.counted;
      outcome = one.outcome;
    }
