-- A question for the latest departure, exchange after exchange, over any link.
use Rattle.std.proofs.Common.{◌≡◌, ◌∙◌, ◌+◌, ◌-◌, ◌≤◌, ℕ, max, inl, inr, true, false, List, [], ◌∷◌, ◌++◌, Option, Some, None, Result, Ok, Err, IsErrOf, ap, arith, length, map, refl, subst, sym}
use Rattle.std.specs.Option.{IfSome}
use Rattle.std.proofs.lemmas.List.{length_push, map-append}
use Rattle.connection_uri.specs.Base.{BaseParts}
use Rattle.connection_uri.specs.Page.{page_target_of}
use Rattle.convoy.specs.Exchange.{Got, result_of}
use Rattle.csa_scan.proofs.ListPlacesLemmas.{slice_get-last}
use Rattle.lc_io.proofs.CountLemmas.{RoseBy-none}
use Rattle.lc_io.specs.Counts.{HasCause, RoseBy}
use Rattle.lc_model.specs.Journey.{arrives_at}
use Rattle.lc_model.specs.Question.{latest_of}
use Rattle.lc_model.specs.Stop.{HasStop}
use Rattle.lc_model.specs.declared.connection.Connection.{Connection}
use Rattle.lc_model.specs.declared.doc.StopsDoc.{StopsDoc}
use Rattle.lc_model.specs.declared.journey.Journey.{Journey}
use Rattle.lc_model.specs.declared.page.PageName.{PageName}
use Rattle.lc_world.specs.Link.{LinkSeen}
use Rattle.lc_world.specs.declared.link.LinkFail.TheVariants.{Failed}
use Rattle.page_json.specs.declared.page.Page.{Page}
use Rattle.page_client.specs.Gate.{IsGateReply}
use Rattle.page_client.specs.Page.{IsPageReply}
use Rattle.page_client.specs.Request.{known_at, target_of}
use Rattle.page_client.specs.Shown.{HasHorizon, IsRefusal, answered}
use Rattle.page_client.specs.Stops.{IsStopsReply}
use Rattle.page_client.specs.declared.fault.PeerFault.{PeerFault}
use Rattle.page_client.specs.declared.fault.PeerFault.TheVariants.{GateWrong, Retreat}
use Rattle.page_client.specs.declared.fault.QueryFault.{QueryFault}
use Rattle.page_client.specs.declared.fault.QueryFault.TheVariants.{HorizonRange, SameStop, UnknownFrom, UnknownTo}
use Rattle.page_client.specs.declared.outcome.Outcome.{Outcome}
use Rattle.page_client.specs.declared.outcome.Outcome.TheVariants as outcomes
use Rattle.page_client.specs.declared.want.Want.{Want}
use Rattle.page_client.specs.declared.want.Want.TheVariants as wants
use Rattle.back_scan.specs.Forward.{forward_query}
use Rattle.back_scan.specs.StandsFor.{IsLatestChain}
use Rattle.back_scan.specs.declared.arrive_query.ArriveQuery.{ArriveQuery}
use Rattle.back_client.specs.Arrives.{AfterDoc, AfterGotGate, AfterGotStops, AfterRefusal, AfterSaidGate, AfterSaidStops, ended}
use Rattle.back_client.specs.Exchange.{IsExchange}
use Rattle.back_client.specs.Steps.{Answers, EndsByGot, EndsByPage, EndsBySaid, LeadsBack, LeadsOn, Taken, WalksBack}
use Rattle.back_client.specs.Wrong.{wrong_of}
use Rattle.back_client.specs.declared.outcome.ArriveEnd.{ArriveEnd}
use Rattle.back_client.specs.declared.page.Place.{Place}
use Rattle.back_client.specs.declared.page.Place.TheVariants.{After, First}
use Rattle.convoy.specs.Replies.Course.{IsSentOn}
use Rattle.convoy.specs.Replies.Ends.{FailsTest, IsRefusedBy}
use Rattle.convoy.specs.Replies.Made.{Made, TellsAll, reply_to}
use Rattle.convoy.specs.Replies.Met.{CountAlong, HasFailedBetween, Met, failures_in}
use Rattle.convoy.proofs.RepliesLemmas.MadeLemmas.{tells_more, tells_none}
use Rattle.convoy.proofs.RepliesLemmas.MetLemmas.{along_more}
use Rattle.back_client.specs.Ends.Asked.{HasAskedLatest}
use Rattle.back_client.specs.Ends.Back.{IsReadingBack, WantsBackAfter, connections_back, gate_query, place_back}
use Rattle.back_client.specs.Ends.Ends.{EndsBackBy}
use Rattle.back_client.specs.Ends.ReplyLaws.{LatestByItsReplies}
use Rattle.back_client.proofs.EndsLemmas.ReadBackLemmas.{IsNotBack, IsSentOff, Judged, connections_more, goes_back_at_first, goes_back_more, judged, link_more, pass_more, place_more, reads_more, sent_first}

-- what was made, exchange by exchange
abbrev pub made_in : List Met → List Made
made_in all = map (λ (met : Met). met.made) all

no_less : (n : ℕ) → n ≤ n
no_less n = omega arith

by_horizon : (arrive horizon : ℕ) → horizon ≤ 604_800 → 1_468_800 ≤ arrive → max 864_000 (arrive - horizon) + horizon ≡ arrive
by_horizon arrive horizon to by = omega arith

-- a question whose horizon is in range goes on to the moment of arrival
arrives_then : (asked : ArriveQuery) → HasHorizon (gate_query asked) → latest_of (forward_query asked) ≡ asked.arrive
arrives_then asked h = by_horizon asked.arrive asked.horizon h.up_to_a_week asked.not_before

-- a refusal is deserved by the question that leaves earlier as by the one at the time gate
horizon_at_gate : (asked : ArriveQuery) → HasHorizon (forward_query asked) → HasHorizon (gate_query asked)
horizon_at_gate asked h = record { from_one = h.from_one; up_to_a_week = h.up_to_a_week }

horizon_before : (asked : ArriveQuery) → HasHorizon (gate_query asked) → HasHorizon (forward_query asked)
horizon_before asked h = record { from_one = h.from_one; up_to_a_week = h.up_to_a_week }

refusal_at_gate : (asked : ArriveQuery) (refusal : Option QueryFault) → IsRefusal (forward_query asked) refusal → IsRefusal (gate_query asked) refusal
refusal_at_gate asked None is = (horizon_at_gate asked is.0, is.1)
refusal_at_gate asked (Some HorizonRange) is = λ h. is (horizon_before asked h)
refusal_at_gate asked (Some SameStop) is = (horizon_at_gate asked is.0, is.1)
refusal_at_gate asked (Some UnknownFrom) is = absurd is
refusal_at_gate asked (Some UnknownTo) is = absurd is

same_counts : (a b c d : ℕ) → outcomes.LinkFault a b ≡ outcomes.LinkFault c d → (a ≡ c) × (b ≡ d)
same_counts a b c d same = (cc, cc)

no_fault : (reply : List ℕ) (fault : PeerFault) (low high : ℕ) → outcomes.PeerWrong reply fault ≡ outcomes.LinkFault low high → ⊥
no_fault reply fault low high is = cc

no_fault_answered : (journey : Option Journey) (low high : ℕ) → answered journey ≡ outcomes.LinkFault low high → ⊥
no_fault_answered None low high is = cc
no_fault_answered (Some journey) low high is = cc

no_fault_refused : (fault : QueryFault) (low high : ℕ) → outcomes.Refused fault ≡ outcomes.LinkFault low high → ⊥
no_fault_refused fault low high is = cc

module _ {X : Type 0} (seen : X → LinkSeen) (base : BaseParts) (asked : ArriveQuery) (start : X) where
  -- by these exchanges the link became this one
  record Gone (link : X) (all : List Met) : Type 0 where
    recorded : TellsAll base (gate_query asked) (made_in all) (seen start).recorded (seen link).recorded
    clear : (seen start).clear → (seen link).clear
    not_fallen : (seen start).faults ≤ (seen link).faults
    along : CountAlong (seen start).faults (seen link).faults all

  gone_nowhere : Gone start []
  gone_nowhere = record { recorded = tells_none base (gate_query asked) (seen start).recorded; clear = λ is. is; not_fallen = no_less (seen start).faults; along = refl }

  -- and one exchange more
  abbrev one_of : Want → Got → X → X → Met
  one_of want got link after = record { client = 1; made = record { want = want; got = got }; asked = true; low = (seen link).faults; high = (seen after).faults }

  more_made : (all : List Met) (met : Met) → made_in all ++ met.made ∷ [] ≡ made_in (all ++ met ∷ [])
  more_made all met = sym (map-append (λ (m : Met). m.made) all (met ∷ []))

  rose_by : (want : Want) (got : Got) (link after : X) → HasCause (seen link).faults (seen after).faults (IsErrOf (result_of got) Failed) →
      RoseBy (failures_in (one_of want got link after ∷ [])) (seen link).faults (seen after).faults
  rose_by want None link after cause = cause.rose refl
  rose_by want (Some reply) link after cause = RoseBy-none (seen link).faults (seen after).faults cause.not_fallen

  gone_more : (want : Want) (got : Got) (link after : X) (all : List Met) → Gone link all → IsExchange base (target_of base (gate_query asked) want) (known_at (gate_query asked) want) (seen link) (seen after) got →
      Gone after (all ++ one_of want got link after ∷ [])
  gone_more want got link after all so x = record {
    recorded = subst (λ (made : List Made). TellsAll base (gate_query asked) made (seen start).recorded (seen after).recorded) (more_made all (one_of want got link after))
        (tells_more base (gate_query asked) (made_in all) (record { want = want; got = got }) x.request (seen start).recorded (seen link).recorded (seen after).recorded so.recorded x.asks x.recorded);
    clear = λ is. x.clear (so.clear is);
    not_fallen = (let low = so.not_fallen in let high = x.faults.not_fallen in omega arith);
    along = along_more (seen start).faults (seen link).faults (seen after).faults all (one_of want got link after) so.along refl (λ none. absurd (let e : true ≡ false = none in cc))
        (rose_by want got link after x.faults) refl;
  }

  -- the question ended at this link, after so many exchanges
  record Ended (link : X) (version : Option ℕ) (exchanges : ℕ) (outcome : Outcome) : Type 0 where
    all : List Met
    gone : Gone link all
    count : exchanges ≡ length all
    ends : EndsBackBy base asked (seen start).faults (seen link).faults version (made_in all) outcome
    fault : (low high : ℕ) → outcome ≡ outcomes.LinkFault low high → HasFailedBetween 1 low high all

  -- how it ended is what it did
  has_asked : (link last : X) (version : Option ℕ) (exchanges : ℕ) (outcome : Outcome) (end : ArriveEnd) → last ≡ link → end ≡ ended outcome version exchanges → Ended link version exchanges outcome →
      HasAskedLatest base asked (seen start) (seen last) end.version end.exchanges end.outcome
  has_asked link last version exchanges outcome end same is e =
      let P : X → ArriveEnd → Type 0 = λ x d. HasAskedLatest base asked (seen start) (seen x) d.version d.exchanges d.outcome in
      let there : P link (ended outcome version exchanges) = record {
        made = made_in e.all;
        counted = e.count ∙ sym (length_made e.all);
        ends = e.ends;
        recorded = e.gone.recorded;
        clear = e.gone.clear;
        not_fallen = e.gone.not_fallen;
        along = record { met = e.all; are = refl; along = e.gone.along; fault = e.fault };
      } in
      subst (λ (d : ArriveEnd). P last d) (sym is) (subst (λ (x : X). P x (ended outcome version exchanges)) (sym same) there) where
        length_made : (all : List Met) → length (made_in all) ≡ length all
        length_made [] = refl
        length_made (m ∷ all) = (let rest = length_made all in omega (arith, rest))

  -- another name of its outcome
  ended_as : (link : X) (version : Option ℕ) (exchanges : ℕ) (outcome other : Outcome) → other ≡ outcome → Ended link version exchanges outcome → Ended link version exchanges other
  ended_as link version exchanges outcome other is e = subst (Ended link version exchanges) (sym is) e

  module _ (accepted : IsRefusal (gate_query asked) None) (version : Option ℕ) where
    -- the exchange for what was wanted failed
    cut_off : (want : Want) (link after : X) (all : List Met) (exchanges : ℕ) → exchanges ≡ length all + 1 → WantsBackAfter base asked version (made_in all) want → Gone link all
        → IsExchange base (target_of base (gate_query asked) want) (known_at (gate_query asked) want) (seen link) (seen after) None
        → Ended after version exchanges (outcomes.LinkFault (seen link).faults (seen after).faults)
    cut_off want link after all exchanges count came so x =
        let last = one_of want None link after in
        let one = length_push all last in
        record {
          all = all ++ last ∷ [];
          gone = gone_more want None link after all so x;
          count = omega (arith, count, one);
          ends = record {
            accepted = accepted;
            earlier = made_in all;
            want = want;
            came = came;
            was_made = sym (more_made all last);
            from = so.not_fallen;
            rose = x.faults.rose refl;
            now_is = refl;
          };
          fault = λ low high is. record {
            place = length all;
            exchange = last;
            there = slice_get-last all last;
            own = refl;
            failed = refl;
            low_is = (same_counts (seen link).faults (seen after).faults low high is).0;
            high_is = (same_counts (seen link).faults (seen after).faults low high is).1;
          };
        }

    -- its reply fails a test
    got_wrong : (want : Want) (link after : X) (all : List Met) (exchanges : ℕ) (reply : List ℕ) (fault : PeerFault) → exchanges ≡ length all + 1 → WantsBackAfter base asked version (made_in all) want → Gone link all
        → IsExchange base (target_of base (gate_query asked) want) (known_at (gate_query asked) want) (seen link) (seen after) (Some reply) → FailsTest base (gate_query asked) want reply fault
        → Ended after version exchanges (outcomes.PeerWrong reply fault)
    got_wrong want link after all exchanges reply fault count came so x fails =
        let last = one_of want (Some reply) link after in
        let one = length_push all last in
        record {
          all = all ++ last ∷ [];
          gone = gone_more want (Some reply) link after all so x;
          count = omega (arith, count, one);
          ends = inl (record { accepted = accepted; earlier = made_in all; want = want; came = came; fails = fails; was_made = sym (more_made all last) });
          fault = λ low high is. absurd (no_fault reply fault low high is);
        }

    -- a page is asked for, after these
    module _ (name : PageName) (link : X) (all : List Met) (came : IsReadingBack base asked version (made_in all) name) (so : Gone link all) where
      -- the page is read, and ends the walk
      module _ (last : X) (exchanges : ℕ) (count : exchanges ≡ length all + 1) (reply : List ℕ) (page : Page)
          (x : IsExchange base (page_target_of base name) None (seen link) (seen last) (Some reply)) (says : IsPageReply base name reply (Ok page)) where
        abbrev read_last : Met
        read_last = one_of (wants.Page name) (Some reply) link last

        by_page_ended : (outcome : Outcome) → EndsBackBy base asked (seen start).faults (seen last).faults version (made_in all ++ reply_to (wants.Page name) reply ∷ []) outcome
            → ((low high : ℕ) → outcome ≡ outcomes.LinkFault low high → ⊥) → Ended last version exchanges outcome
        by_page_ended outcome ends no_link_fault =
            let one = length_push all read_last in
            record {
              all = all ++ read_last ∷ [];
              gone = gone_more (wants.Page name) (Some reply) link last all so x;
              count = omega (arith, count, one);
              ends = subst (λ (made : List Made). EndsBackBy base asked (seen start).faults (seen last).faults version made outcome) (more_made all read_last) ends;
              fault = λ low high is. absurd (no_link_fault low high is);
            }

        sent_off : (outcome : Outcome) → IsSentOff asked.arrive (place_back (First came.gate) came.pages) page outcome → Ended last version exchanges outcome
        sent_off outcome off =
            let first = sent_first came.gate off.gate came.pages off.place_is in
            ended_as last version exchanges (outcomes.PeerWrong off.gate (GateWrong page)) outcome off.is
            (by_page_ended (outcomes.PeerWrong off.gate (GateWrong page)) (inr (inl (record {
              accepted = accepted;
              earlier = made_in all;
              name = name;
              came = came;
              none_before = first.0;
              by_gate = sym first.1;
              last = reply;
              page = page;
              says = says;
              off = off.off;
              fault_is = refl;
              was_made = refl;
            }))) (no_fault off.gate (GateWrong page)))

        not_led : (outcome : Outcome) → IsNotBack asked.arrive (place_back (First came.gate) came.pages) page reply outcome → Ended last version exchanges outcome
        not_led outcome fails =
            ended_as last version exchanges (outcomes.PeerWrong reply Retreat) outcome fails.is
            (by_page_ended (outcomes.PeerWrong reply Retreat) (inr (inr (record {
              accepted = accepted;
              earlier = made_in all;
              name = name;
              came = came;
              page = page;
              says = says;
              sent = fails.sent;
              not_back = fails.not_back;
              fault_is = refl;
              was_made = refl;
            }))) (no_fault reply Retreat))

        arrives_in_time : (taken : List Connection) (journey : Option Journey) → IsLatestChain (forward_query asked) came.doc taken journey → IfSome journey (λ (j : Journey). arrives_at j ≤ asked.arrive)
        arrives_in_time taken None chain = tt
        arrives_in_time taken (Some journey) chain = subst (λ (n : ℕ). arrives_at journey ≤ n) (arrives_then asked accepted.0) chain.is_journey.in_time

        by_answer : (journey : Option Journey) → Judged asked.arrive (place_back (First came.gate) came.pages) page reply None
            → Answers (forward_query asked) came.doc (page.list ++ connections_back came.pages) page (answered journey)
            → IsLatestChain (forward_query asked) came.doc (page.list ++ connections_back came.pages) journey → Ended last version exchanges (answered journey)
        by_answer None passes a latest =
            by_page_ended outcomes.NoJourney (record {
              accepted = accepted;
              earlier = made_in all;
              name = name;
              came = came;
              reply = reply;
              page = page;
              says = says;
              passes = passes;
              stops = a.last;
              latest = latest;
              in_time = tt;
              was_made = refl;
            }) (no_fault_answered None)
        by_answer (Some journey) passes a latest =
            by_page_ended (outcomes.Found journey) (record {
              accepted = accepted;
              earlier = made_in all;
              name = name;
              came = came;
              reply = reply;
              page = page;
              says = says;
              passes = passes;
              stops = a.last;
              latest = latest;
              in_time = arrives_in_time (page.list ++ connections_back came.pages) (Some journey) latest;
              was_made = refl;
            }) (no_fault_answered (Some journey))

        by_tests : (outcome : Outcome) (wrong : Option Outcome) → Judged asked.arrive (place_back (First came.gate) came.pages) page reply wrong
            → EndsByPage wrong (forward_query asked) came.doc (connections_back came.pages) page outcome → Ended last version exchanges outcome
        by_tests outcome (Some wrong) (inl off) is = ended_as last version exchanges wrong outcome is (sent_off wrong off)
        by_tests outcome (Some wrong) (inr fails) is = ended_as last version exchanges wrong outcome is (not_led wrong fails)
        by_tests outcome None passes a =
            ended_as last version exchanges (answered a.journey) outcome a.is
            (by_answer a.journey passes (record { last = a.last; journey = a.journey; is_latest = a.is_latest; is = refl }) a.is_latest)

      ends_said : (last : X) (exchanges : ℕ) → exchanges ≡ length all + 1 → (reply : List ℕ) (said : Result Page PeerFault) → IsExchange base (page_target_of base name) None (seen link) (seen last) (Some reply)
          → IsPageReply base name reply said → (outcome : Outcome) → EndsBySaid asked came.doc (place_back (First came.gate) came.pages) (connections_back came.pages) name reply said outcome
          → Ended last version exchanges outcome
      ends_said last exchanges count reply (Err fault) x says outcome is =
          ended_as last version exchanges (outcomes.PeerWrong reply fault) outcome is (got_wrong (wants.Page name) link last all exchanges reply fault count came so x says)
      ends_said last exchanges count reply (Ok page) x says outcome ends =
          let place = place_back (First came.gate) came.pages in
          by_tests last exchanges count reply page x says outcome (wrong_of asked.arrive place page reply) (judged asked.arrive page reply place) ends.1

      ends_got : (last : X) (exchanges : ℕ) → exchanges ≡ length all + 1 → (got : Got) → IsExchange base (page_target_of base name) None (seen link) (seen last) got → (outcome : Outcome)
          → EndsByGot base asked came.doc (place_back (First came.gate) came.pages) (connections_back came.pages) name (seen link).faults (seen last).faults got outcome → Ended last version exchanges outcome
      ends_got last exchanges count None x outcome is =
          ended_as last version exchanges (outcomes.LinkFault (seen link).faults (seen last).faults) outcome is (cut_off (wants.Page name) link last all exchanges count came so x)
      ends_got last exchanges count (Some reply) x outcome ends = ends_said last exchanges count reply ends.0 x ends.1 outcome ends.2

    -- a page that led on is one of those that were read
    module _ (name : PageName) (link : X) (all : List Met) (came : IsReadingBack base asked version (made_in all) name) (turn : Taken X)
        (leads : LeadsBack seen base asked came.doc (place_back (First came.gate) came.pages) (connections_back came.pages) name link turn) where
      abbrev turned : Met
      turned = one_of (wants.Page name) (Some turn.reply) link turn.link

      on : LeadsOn (forward_query asked) came.doc (turn.page.list ++ connections_back came.pages) turn.page turn.previous
      on = leads.leads

      abbrev onward : IsReadingBack base asked version (made_in (all ++ turned ∷ [])) turn.previous
      onward = record {
        gate = came.gate;
        first = came.first;
        sends = came.sends;
        at_version = came.at_version;
        stops = came.stops;
        doc = came.doc;
        says_stops = came.says_stops;
        from = came.from;
        to = came.to;
        for_pages = came.for_pages ++ turned.made ∷ [];
        pages = came.pages ++ turn.page ∷ [];
        reads = reads_more base (Some came.first) came.for_pages came.pages name turned.made turn.page came.reads came.links (record { reply = turn.reply; is = refl; says = leads.says });
        links = link_more (Some came.first) came.pages turn.page ∙ on.is_previous;
        right = pass_more asked.arrive (First came.gate) came.pages turn.page came.right
            (subst (Judged asked.arrive (place_back (First came.gate) came.pages) turn.page turn.reply) leads.right (judged asked.arrive turn.page turn.reply (place_back (First came.gate) came.pages)));
        goes_on = goes_back_more (forward_query asked) came.doc came.pages turn.page came.goes_on on.not_over;
        was_made = sym (more_made all turned) ∙ ap (λ (l : List Made). l ++ turned.made ∷ []) came.was_made;
      }

      -- the walk goes on from there
      walks_on : (rest : List (Taken X)) (last : X) (outcome : Outcome) → WalksBack seen base asked came.doc (After name.departs) (turn.page.list ++ connections_back came.pages) turn.previous turn.link rest last outcome
          → WalksBack seen base asked came.doc (place_back (First came.gate) (came.pages ++ turn.page ∷ [])) (connections_back (came.pages ++ turn.page ∷ [])) turn.previous turn.link rest last outcome
      walks_on rest last outcome more =
          let place : After name.departs ≡ place_back (First came.gate) (came.pages ++ turn.page ∷ []) =
          ap (λ (n : PageName). After n.departs) (sym leads.read.named) ∙ sym (place_more (First came.gate) came.pages turn.page) in
          subst (λ (p : Place). WalksBack seen base asked came.doc p (connections_back (came.pages ++ turn.page ∷ [])) turn.previous turn.link rest last outcome) place
          (subst (λ (l : List Connection). WalksBack seen base asked came.doc (After name.departs) l turn.previous turn.link rest last outcome) (connections_more came.pages turn.page) more)

    -- the walk
    walk : (turns : List (Taken X)) (name : PageName) (link last : X) (all : List Met) (exchanges : ℕ) (outcome : Outcome) → exchanges ≡ length all + length turns + 1
        → (came : IsReadingBack base asked version (made_in all) name) → Gone link all
        → WalksBack seen base asked came.doc (place_back (First came.gate) came.pages) (connections_back came.pages) name link turns last outcome → Ended last version exchanges outcome
    walk [] name link last all exchanges outcome count came so ends = ends_got name link all came so last exchanges (omega (arith, count)) ends.got ends.exchange outcome ends.ends
    walk (turn ∷ rest) name link last all exchanges outcome count came so (leads, more) =
        let met = turned name link all came turn leads in
        let one = length_push all met in
        let many : exchanges ≡ length (all ++ met ∷ []) + length rest + 1 = omega (arith, count, one) in
        walk rest turn.previous turn.link last (all ++ met ∷ []) exchanges outcome many (onward name link all came turn leads)
        (gone_more (wants.Page name) (Some turn.reply) link turn.link all so leads.exchange) (walks_on name link all came turn leads rest last outcome more)

  -- ---- from the time gate on

  refused_at_once : (fault : QueryFault) → IsRefusal (gate_query asked) (Some fault) → Ended start None 0 (outcomes.Refused fault)
  refused_at_once fault deserved = record { all = []; gone = gone_nowhere; count = refl; ends = by fault deserved; fault = λ low high is. absurd (no_fault_refused fault low high is) } where
    by : (f : QueryFault) → IsRefusal (gate_query asked) (Some f) → IsRefusedBy base (gate_query asked) None [] f
    by HorizonRange is = record { deserved = is; no_version = refl; nothing_made = refl }
    by SameStop is = record { deserved = is; no_version = refl; nothing_made = refl }
    by UnknownFrom is = absurd is
    by UnknownTo is = absurd is

  module _ (accepted : IsRefusal (gate_query asked) None) where
    -- the time gate sent to a page
    module _ (mid : X) (gate : List ℕ) (first : PageName) (sends : IsGateReply base asked.arrive gate (Ok first))
        (x : IsExchange base (target_of base (gate_query asked) wants.Gate) (known_at (gate_query asked) wants.Gate) (seen start) (seen mid) (Some gate)) where
      sent : IsSentOn base (gate_query asked) (Some first.version) (reply_to wants.Gate gate ∷ [])
      sent = record { gate = gate; first = first; sends = sends; at_version = refl; was_made = refl }

      abbrev at_gate : Met
      at_gate = one_of wants.Gate (Some gate) start mid

      gone_gate : Gone mid (at_gate ∷ [])
      gone_gate = gone_more wants.Gate (Some gate) start mid [] gone_nowhere x

      -- the stops document was read
      module _ (after : X) (reply : List ℕ) (doc : StopsDoc) (y : IsExchange base (target_of base (gate_query asked) wants.Stops) (known_at (gate_query asked) wants.Stops) (seen mid) (seen after) (Some reply))
          (says : IsStopsReply reply (Ok doc)) where
        abbrev at_stops : Met
        at_stops = one_of wants.Stops (Some reply) mid after

        gone_stops : Gone after (at_gate ∷ at_stops ∷ [])
        gone_stops = gone_more wants.Stops (Some reply) mid after (at_gate ∷ []) gone_gate y

        lacks_from : (HasStop doc.stops asked.from → ⊥) → Ended after (Some first.version) 2 (outcomes.Refused UnknownFrom)
        lacks_from lacks = record {
          all = at_gate ∷ at_stops ∷ [];
          gone = gone_stops;
          count = refl;
          ends = record {
            doc = doc;
            read = record { accepted = accepted; earlier = reply_to wants.Gate gate ∷ []; came = sent; reply = reply; says = says; was_made = refl };
            no_from = lacks;
          };
          fault = λ low high is. absurd (no_fault_refused UnknownFrom low high is);
        }

        lacks_to : HasStop doc.stops asked.from → (HasStop doc.stops asked.to → ⊥) → Ended after (Some first.version) 2 (outcomes.Refused UnknownTo)
        lacks_to has lacks = record {
          all = at_gate ∷ at_stops ∷ [];
          gone = gone_stops;
          count = refl;
          ends = record {
            doc = doc;
            read = record { accepted = accepted; earlier = reply_to wants.Gate gate ∷ []; came = sent; reply = reply; says = says; was_made = refl };
            from = has;
            no_to = lacks;
          };
          fault = λ low high is. absurd (no_fault_refused UnknownTo low high is);
        }

        abbrev begins : HasStop doc.stops asked.from → HasStop doc.stops asked.to → IsReadingBack base asked (Some first.version) (made_in (at_gate ∷ at_stops ∷ [])) first
        begins from to = record {
          gate = gate;
          first = first;
          sends = sends;
          at_version = refl;
          stops = reply;
          doc = doc;
          says_stops = says;
          from = from;
          to = to;
          for_pages = [];
          pages = [];
          reads = tt;
          links = refl;
          right = tt;
          goes_on = goes_back_at_first (forward_query asked) doc;
          was_made = refl;
        }

        by_doc : (last : X) (end : ArriveEnd) → AfterDoc seen base asked doc gate first after last end → HasAskedLatest base asked (seen start) (seen last) end.version end.exchanges end.outcome
        by_doc last end (inl lacks) = has_asked after last (Some first.version) 2 (outcomes.Refused UnknownFrom) end lacks.same_link lacks.is (lacks_from lacks.lacks)
        by_doc last end (inr (inl lacks)) = has_asked after last (Some first.version) 2 (outcomes.Refused UnknownTo) end lacks.same_link lacks.is (lacks_to lacks.has lacks.lacks)
        by_doc last end (inr (inr (knows, walked))) =
            has_asked last last (Some first.version) (length walked.turns + 3) walked.outcome end refl walked.is
            (walk accepted (Some first.version) walked.turns first after last (at_gate ∷ at_stops ∷ []) (length walked.turns + 3) walked.outcome (omega arith) (begins knows.from knows.to) gone_stops walked.walks)

      by_said_stops : (after : X) (reply : List ℕ) (said : Result StopsDoc PeerFault) → IsExchange base (target_of base (gate_query asked) wants.Stops) (known_at (gate_query asked) wants.Stops) (seen mid) (seen after) (Some reply)
          → IsStopsReply reply said → (last : X) (end : ArriveEnd) → AfterSaidStops seen base asked gate first reply after last end said
          → HasAskedLatest base asked (seen start) (seen last) end.version end.exchanges end.outcome
      by_said_stops after reply (Ok doc) y says last end leads = by_doc after reply doc y says last end leads
      by_said_stops after reply (Err fault) y says last end leads =
          has_asked after last (Some first.version) 2 (outcomes.PeerWrong reply fault) end leads.same_link leads.is
          (got_wrong accepted (Some first.version) wants.Stops mid after (at_gate ∷ []) 2 reply fault refl sent gone_gate y says)

      by_got_stops : (after : X) (got : Got) → IsExchange base (target_of base (gate_query asked) wants.Stops) (known_at (gate_query asked) wants.Stops) (seen mid) (seen after) got
          → (last : X) (end : ArriveEnd) → AfterGotStops seen base asked gate first (seen mid).faults (seen after).faults after last end got
          → HasAskedLatest base asked (seen start) (seen last) end.version end.exchanges end.outcome
      by_got_stops after None y last end leads =
          has_asked after last (Some first.version) 2 (outcomes.LinkFault (seen mid).faults (seen after).faults) end leads.same_link leads.is
          (cut_off accepted (Some first.version) wants.Stops mid after (at_gate ∷ []) 2 refl sent gone_gate y)
      by_got_stops after (Some reply) y last end (said, says, leads) = by_said_stops after reply said y says last end leads

    by_said_gate : (after : X) (reply : List ℕ) (said : Result PageName PeerFault) → IsExchange base (target_of base (gate_query asked) wants.Gate) (known_at (gate_query asked) wants.Gate) (seen start) (seen after) (Some reply)
        → IsGateReply base asked.arrive reply said → (last : X) (end : ArriveEnd) → AfterSaidGate seen base asked reply after last end said
        → HasAskedLatest base asked (seen start) (seen last) end.version end.exchanges end.outcome
    by_said_gate after reply (Ok first) x says last end leads =
        by_got_stops after reply first says x leads.after leads.got leads.exchange last end leads.leads
    by_said_gate after reply (Err fault) x says last end leads =
        has_asked after last None 1 (outcomes.PeerWrong reply fault) end leads.same_link leads.is
        (got_wrong accepted None wants.Gate start after [] 1 reply fault refl (record { no_version = refl; nothing_made = refl }) gone_nowhere x says)

    by_got_gate : (after : X) (got : Got) → IsExchange base (target_of base (gate_query asked) wants.Gate) (known_at (gate_query asked) wants.Gate) (seen start) (seen after) got
        → (last : X) (end : ArriveEnd) → AfterGotGate seen base asked (seen start).faults (seen after).faults after last end got
        → HasAskedLatest base asked (seen start) (seen last) end.version end.exchanges end.outcome
    by_got_gate after None x last end leads =
        has_asked after last None 1 (outcomes.LinkFault (seen start).faults (seen after).faults) end leads.same_link leads.is
        (cut_off accepted None wants.Gate start after [] 1 refl (record { no_version = refl; nothing_made = refl }) gone_nowhere x)
    by_got_gate after (Some reply) x last end (said, says, leads) = by_said_gate after reply said x says last end leads

  by_refusal : (last : X) (end : ArriveEnd) (refusal : Option QueryFault) → IsRefusal (forward_query asked) refusal → AfterRefusal seen base asked start last end refusal
      → HasAskedLatest base asked (seen start) (seen last) end.version end.exchanges end.outcome
  by_refusal last end (Some fault) is leads = has_asked start last None 0 (outcomes.Refused fault) end leads.0 leads.1 (refused_at_once fault (refusal_at_gate asked (Some fault) is))
  by_refusal last end None is leads = by_got_gate (refusal_at_gate asked None is) leads.after leads.got leads.exchange last end leads.leads

pub latest_by_its_replies : {X : Type 0} (seen : X → LinkSeen) → LatestByItsReplies seen
latest_by_its_replies seen base asked before after end arrives = by_refusal seen base asked before after end arrives.refusal arrives.is_refusal arrives.leads
