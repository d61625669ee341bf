-- That a question for the latest departure ends rightly over an honest link.
use Rattle.std.proofs.Common.{◌≡◌, ℕ, suc, ◌+◌, ◌-◌, ◌≤◌, max, inl, inr, List, [], ◌∷◌, ◌++◌, map, Option, Some, None, Result, Ok, length, refl, ap, sym, subst, ◌∙◌, arith}
use Rattle.std.proofs.lemmas.List.{length-map, map-append}
use Rattle.lc_io.specs.Counts.{Rose}
use Rattle.lc_model.specs.Question.{latest_of}
use Rattle.lc_model.specs.Stop.{HasStop}
use Rattle.lc_model.specs.declared.doc.StopsDoc.{StopsDoc}
use Rattle.lc_model.specs.declared.journey.Journey.{Journey}
use Rattle.lc_model.specs.declared.page.PageName.{PageName}
use Rattle.lc_model.specs.Versions.Pages.{CutPage, page_for}
use Rattle.connection_uri.specs.Base.{BaseParts}
use Rattle.connection_uri.specs.Page.{gate_target_of, stops_target_of}
use Rattle.lc_world.specs.Link.{IsHonestWith, LinkSeen}
use Rattle.page_json.specs.Sound.{IsSoundName}
use Rattle.page_json.specs.declared.page.Page.{Page}
use Rattle.page_client.specs.Shown.{HasHorizon, IsRefusal, answered}
use Rattle.page_client.specs.declared.fault.PeerFault.{PeerFault}
use Rattle.page_client.specs.declared.fault.QueryFault.{QueryFault}
use Rattle.page_client.specs.declared.fault.QueryFault.TheVariants.{HorizonRange, SameStop, UnknownFrom, UnknownTo}
use Rattle.page_client.specs.declared.outcome.Outcome.{Outcome}
use Rattle.page_client.specs.declared.outcome.Outcome.TheVariants as outcomes
use Rattle.lc_world.specs.Sides.PageAt.{named}
use Rattle.lc_world.specs.Sides.Side.{IsLater, Side}
use Rattle.convoy.specs.PageLaws.Chain.{ArePagesOf, along_previous}
use Rattle.convoy.specs.ClientLaws.Stated.{IsGatePage, version_at}
use Rattle.convoy.specs.ClientLaws.Answered.{names_at}
use Rattle.convoy.specs.ClientLaws.Laws.{IsAmong}
use Rattle.convoy.specs.ClientLaws.Published.{IsPublished, Published}
use Rattle.convoy.specs.ClientLaws.Wants.{HasEnds}
use Rattle.convoy.proofs.ClientLawsLemmas.PublishedLemmas.{is_lawful, pages_are_among, published_stays}
use Rattle.back_client.specs.Ends.NeededBack.{IsTakenBackUntilOver, connections_back, pages_back}
use Rattle.convoy.specs.Exchange.{Got}
use Rattle.convoy.specs.Agreement.Leaves.{LeavesHonest, RoseWithin}
use Rattle.convoy.specs.Agreement.Requests.{TellsRequests}
use Rattle.convoy.proofs.AgreementLemmas.HonestLemmas.{leaves_alone, leaves_then, no_less}
use Rattle.convoy.proofs.AgreementLemmas.TurnLemmas.{rose_wider}
use Rattle.back_scan.specs.Forward.{forward_query}
use Rattle.back_scan.specs.StandsFor.{IsLatestChain}
use Rattle.back_scan.specs.declared.arrive_query.ArriveQuery.{ArriveQuery}
use Rattle.back_client.specs.Arrives.{AfterDoc, AfterGotGate, AfterGotStops, AfterRefusal, AfterSaidGate, AfterSaidStops, HasWalked, ended}
use Rattle.back_client.specs.declared.outcome.ArriveEnd.{ArriveEnd}
use Rattle.back_client.specs.declared.page.Place.TheVariants.{First}
use Rattle.back_client.specs.Ends.Laws.{LatestEndsRight, LatestIsFound}
use Rattle.back_client.specs.Ends.Requests.{AreWanted, IsFront, gate_request, page_request, requests_of, stops_request}
use Rattle.back_client.specs.Ends.Right.{EndsAt, EndsWithLatest, HasLatest, IsNamed, IsRefused, IsRight}
use Rattle.back_client.proofs.EndsLemmas.AnsweredLemmas.{front_at, latest_at, needed_at}
use Rattle.back_client.proofs.EndsLemmas.ExchangeLemmas.{OneExchange, gate_query, gate_read, has_later, no_requests, one_exchange, requests_then, stops_read}
use Rattle.back_client.proofs.EndsLemmas.FrontLemmas.{IsAskedBack}
use Rattle.back_client.proofs.EndsLemmas.MeantLemmas.{has_meant}
use Rattle.back_client.proofs.EndsLemmas.WalkLemmas.{EndsWalk, IsAt, Waits, Walked, not_behind, walks}

by_horizon : (arrive horizon : ℕ) → horizon ≤ 604_800 → 1_468_800 ≤ arrive → max 864_000 (arrive - horizon) + horizon ≡ arrive
by_horizon arrive horizon to by = omega arith

-- a question whose horizon is in range goes on to the moment of arrival
arrives_then : (asked : ArriveQuery) → HasHorizon (forward_query asked) → latest_of (forward_query asked) ≡ asked.arrive
arrives_then asked h = by_horizon asked.arrive asked.horizon h.up_to_a_week asked.not_before

-- a later side has the same stops document
same_doc : (before after : Side) → IsLater before after → after.doc ≡ before.doc
same_doc before after later = ap (λ (s : Side). s.doc) later.is

counted : (turns : ℕ) (base : BaseParts) (asked : ArriveQuery) (version : ℕ) (pages : List CutPage) → length pages ≡ turns + 1 → turns + 3 ≡ length (requests_of base asked (names_at version pages))
counted turns base asked version pages is =
    let requests = length-map (names_at version pages) (page_request base) in
    let names = length-map pages (λ (p : CutPage). named version p.departs) in
    two_more turns (length pages) (length (names_at version pages)) (length (map (page_request base) (names_at version pages))) is names requests where
      two_more : (a b c d : ℕ) → b ≡ a + 1 → c ≡ b → d ≡ c → a + 3 ≡ suc (suc d)
      two_more a b c d one two three = omega arith

-- an end over the same link and with the same values
by_same : {X : Type 0} (seen : X → LinkSeen) (base : BaseParts) (asked : ArriveQuery) (side : Side) (link last after : X) (end here : ArriveEnd) → last ≡ after → end ≡ here → IsRight seen base asked side link after here →
    IsRight seen base asked side link last end
by_same {X} seen base asked side link last after end here same is right =
    let L : X → Type 0 = λ x. IsRight seen base asked side link x end in
    let E : ArriveEnd → Type 0 = λ e. IsRight seen base asked side link after e in
    subst L (sym same) (subst E (sym is) right)

-- The time gate was asked alone, and sent to a page of what is published at the version that is meant.
record IsSentOn {X : Type 0} (seen : X → LinkSeen) (base : BaseParts) (asked : ArriveQuery) (side : Side) (link mid : X) (first : PageName) : Type 0 where
  accepted : IsRefusal (forward_query asked) None
  at : Side
  by_gate : LeavesHonest base side at (seen link) (seen mid)
  recorded : TellsRequests (seen link).recorded (seen mid).recorded base.authority (gate_request base asked ∷ [])
  published : Published
  is_published : IsPublished at (version_at at asked.known) published
  is_first : first ≡ named (version_at at asked.known) (page_for published.first published.rest asked.arrive).departs
  sound : IsSoundName first

sent_on : {X : Type 0} (seen : X → LinkSeen) (base : BaseParts) (asked : ArriveQuery) (side at : Side) (link mid : X) (first : PageName) → IsRefusal (forward_query asked) None → LeavesHonest base side at (seen link) (seen mid) →
    TellsRequests (seen link).recorded (seen mid).recorded base.authority (gate_request base asked ∷ []) → IsGatePage at (gate_query asked) first → IsSentOn seen base asked side link mid first
sent_on seen base asked side at link mid first accepted by_gate recorded sent =
    let among : IsAmong at (version_at at asked.known) asked.arrive sent.page = pages_are_among at (version_at at asked.known) asked.arrive sent.page sent.is_page in
    record {
      accepted = accepted;
      at = at;
      by_gate = by_gate;
      recorded = recorded;
      published = among.published;
      is_published = among.is_published;
      is_first = sent.is ∙ ap (λ (p : Page). p.name) among.is;
      sound = sent.sound;
    }

module _ {X : Type 0} (seen : X → LinkSeen) (base : BaseParts) (asked : ArriveQuery) (side : Side) (link mid : X) (first : PageName) (s : IsSentOn seen base asked side link mid first) where
  version_is : first.version ≡ version_at s.at asked.known
  version_is = ap (λ (n : PageName). n.version) s.is_first

  row : ArePagesOf s.published.list s.published.first s.published.rest
  row = (is_lawful s.at (version_at s.at asked.known) s.published s.by_gate.honest.stands.valid s.is_published).pages

  in_range : latest_of (forward_query asked) ≡ asked.arrive
  in_range = arrives_then asked s.accepted.0

  -- the page to which the time gate sent is waited for
  waits : (gate : List ℕ) → Waits seen base asked s.published (version_at s.at asked.known) s.at.doc row in_range (First gate) [] first []
  waits gate =
      let N : ℕ → Type 0 = λ m. first ≡ named (version_at s.at asked.known) (page_for s.published.first s.published.rest m).departs in
      record {
        cut = page_for s.published.first s.published.rest (latest_of (forward_query asked));
        behind = along_previous s.published.first s.published.rest (latest_of (forward_query asked));
        parts = refl;
        is_page = subst N (sym in_range) s.is_first;
        sound = s.sound;
        at = refl;
        taken_is = refl;
        goes_on = λ front page more e over. not_behind front page more e;
      }

  -- it ended after further requests
  right_after : (left : Side) (last : X) (requests : List (List ℕ)) (outcome : Outcome) (count : ℕ) → LeavesHonest base s.at left (seen mid) (seen last) →
      TellsRequests (seen mid).recorded (seen last).recorded base.authority requests → count ≡ length (gate_request base asked ∷ requests) →
      EndsAt base s.at asked (Some first.version) (gate_request base asked ∷ requests) (seen link).faults (seen last).faults outcome →
      IsRight seen base asked side link last (ended outcome (Some first.version) count)
  right_after left last requests outcome count onward recorded many ends = record {
    left = left;
    honest = leaves_then base side s.at left (seen link) (seen mid) (seen last) s.by_gate onward;
    requests = gate_request base asked ∷ requests;
    recorded = requests_then (seen link).recorded (seen mid).recorded (seen last).recorded base.authority (gate_request base asked ∷ []) requests s.recorded recorded;
    count = many;
    at = s.at;
    named = record { link = mid; first = s.by_gate; recorded = s.recorded; is = version_is; behind = onward };
    ends = ends;
  }

  -- the exchange for the stops document failed
  stops_failed : (after : X) → OneExchange base s.at (stops_target_of base) None (seen mid) (seen after) None →
      IsRight seen base asked side link after (ended (outcomes.LinkFault (seen mid).faults (seen after).faults) (Some first.version) 2)
  stops_failed after x =
      right_after x.left after (stops_request base ∷ []) (outcomes.LinkFault (seen mid).faults (seen after).faults) 2 x.honest x.recorded refl (record {
        accepted = s.accepted;
        front = λ names wanted. (map (page_request base) names, refl);
        rose = record { from = s.by_gate.not_fallen; to = no_less (seen after).faults; rose = x.rose refl };
      })

  module _ (after : X) (got : Got) (x : OneExchange base s.at (stops_target_of base) None (seen mid) (seen after) got) where
    lacks_from : (HasStop s.at.doc.stops asked.from → ⊥) → IsRight seen base asked side link after (ended (outcomes.Refused UnknownFrom) (Some first.version) 2)
    lacks_from lacks =
        right_after x.left after (stops_request base ∷ []) (outcomes.Refused UnknownFrom) 2 x.honest x.recorded refl
        (record { accepted = s.accepted; number = first.version; at_version = refl; no_from = lacks; requests_are = refl })

    lacks_to : HasStop s.at.doc.stops asked.from → (HasStop s.at.doc.stops asked.to → ⊥) → IsRight seen base asked side link after (ended (outcomes.Refused UnknownTo) (Some first.version) 2)
    lacks_to has lacks =
        right_after x.left after (stops_request base ∷ []) (outcomes.Refused UnknownTo) 2 x.honest x.recorded refl
        (record { accepted = s.accepted; number = first.version; at_version = refl; from = has; no_to = lacks; requests_are = refl })

    begins : IsAt seen base asked s.published (version_at s.at asked.known) s.at.doc row in_range x.left after
    begins = record {
      honest = x.honest.honest;
      is_published = (published_stays s.published s.at x.left (version_at s.at asked.known) x.honest.honest.stands.valid x.honest.later (has_meant s.at asked.known)).0 s.is_published;
      has = has_later s.at x.left (version_at s.at asked.known) x.honest.later (has_meant s.at asked.known);
    }

    -- the pages were taken
    module _ (knows : HasEnds s.at.doc (forward_query asked)) (last : X) (turns : ℕ) (outcome : Outcome)
        (w : Walked seen base asked s.published (version_at s.at asked.known) s.at.doc row in_range x.left after last [] (turns + 1) outcome) where
      has_latest : (answer : Option Journey) → IsTakenBackUntilOver (forward_query asked) s.at.doc (pages_back s.published.first s.published.rest (forward_query asked)) w.pages →
          IsLatestChain (forward_query asked) s.at.doc (connections_back w.pages) answer → HasLatest base s.at asked (Some first.version) (requests_of base asked (names_at (version_at s.at asked.known) w.pages)) answer
      has_latest answer until chain = record {
        accepted = s.accepted;
        ends = knows;
        number = version_at s.at asked.known;
        at_version = ap Some version_is;
        of_side = has_meant s.at asked.known;
        is_latest = latest_at s.at (version_at s.at asked.known) s.published s.by_gate.honest.stands.valid s.is_published (forward_query asked) w.pages answer until chain;
        names = names_at (version_at s.at asked.known) w.pages;
        are_needed = needed_at s.at (version_at s.at asked.known) s.published s.by_gate.honest.stands.valid s.is_published (forward_query asked) w.pages answer until chain;
        requests_are = refl;
      }

      front_by : IsAskedBack (forward_query asked) s.at.doc (pages_back s.published.first s.published.rest (forward_query asked)) w.pages → (names : List PageName) → AreWanted s.at (version_at s.at asked.known) asked names →
          (more : List (List ℕ)) × (requests_of base asked names ≡ requests_of base asked (names_at (version_at s.at asked.known) w.pages) ++ more)
      front_by back names (inl none) = absurd (none.lacks knows)
      front_by back names (inr wanted) =
          let front = front_at s.at (version_at s.at asked.known) s.published s.by_gate.honest.stands.valid s.is_published (forward_query asked) w.pages back names wanted.are_needed in (
            map (page_request base) (names_at (version_at s.at asked.known) front.0),
            ap (requests_of base asked) front.1
                ∙ ap (λ (l : List (List ℕ)). gate_request base asked ∷ stops_request base ∷ l)
                (map-append (page_request base) (names_at (version_at s.at asked.known) w.pages) (names_at (version_at s.at asked.known) front.0)),
          )

      is_front : IsAskedBack (forward_query asked) s.at.doc (pages_back s.published.first s.published.rest (forward_query asked)) w.pages →
          IsFront base s.at asked (requests_of base asked (names_at (version_at s.at asked.known) w.pages)) (Some first.version)
      is_front back =
          let F : ℕ → Type 0 = λ v. IsFront base s.at asked (requests_of base asked (names_at (version_at s.at asked.known) w.pages)) (Some v) in
          let there : F (version_at s.at asked.known) = front_by back in
          subst F (sym version_is) there

      by_outcome : (so : Outcome) → EndsWalk (forward_query asked) s.at.doc (pages_back s.published.first s.published.rest (forward_query asked)) w.pages (seen after).faults (seen last).faults so →
          EndsAt base s.at asked (Some first.version) (requests_of base asked (names_at (version_at s.at asked.known) w.pages)) (seen link).faults (seen last).faults so
      by_outcome (outcomes.Found journey) ends = has_latest (Some journey) ends.0 ends.1
      by_outcome outcomes.NoJourney ends = has_latest None ends.0 ends.1
      by_outcome (outcomes.Refused fault) ends = absurd ends
      by_outcome (outcomes.LinkFault low high) ends = record {
        accepted = s.accepted;
        front = is_front ends.0;
        rose = rose_wider (seen link).faults (seen after).faults (seen last).faults (seen last).faults low high
            (leaves_then base side s.at x.left (seen link) (seen mid) (seen after) s.by_gate x.honest).not_fallen (no_less (seen last).faults) ends.1;
      }
      by_outcome (outcomes.PeerWrong reply fault) ends = absurd ends

      walked_right : IsRight seen base asked side link last (ended outcome (Some first.version) (turns + 3))
      walked_right =
          let requests = map (page_request base) (names_at (version_at s.at asked.known) w.pages) in
          right_after w.left last (stops_request base ∷ requests) outcome (turns + 3) (leaves_then base s.at x.left w.left (seen mid) (seen after) (seen last) x.honest w.honest)
          (requests_then (seen mid).recorded (seen after).recorded (seen last).recorded base.authority (stops_request base ∷ []) requests x.recorded w.recorded)
          (counted turns base asked (version_at s.at asked.known) w.pages w.count_is) (by_outcome outcome w.ends)

    ends_walked : HasEnds s.at.doc (forward_query asked) → (gate : List ℕ) (last : X) (end : ArriveEnd) → HasWalked seen base asked s.at.doc gate first after last end → IsRight seen base asked side link last end
    ends_walked knows gate last end walked =
        by_same seen base asked side link last last end (ended walked.outcome (Some first.version) (length walked.turns + 3)) refl walked.is
        (walked_right knows last (length walked.turns) walked.outcome
        (walks seen base asked s.published (version_at s.at asked.known) s.at.doc row in_range walked.turns x.left after last (First gate) [] first [] walked.outcome begins (waits gate) walked.walks))

    -- what the stops document led to
    by_doc : (gate : List ℕ) (last : X) (end : ArriveEnd) → AfterDoc seen base asked s.at.doc gate first after last end → IsRight seen base asked side link last end
    by_doc gate last end (inl lacks) = by_same seen base asked side link last after end (ended (outcomes.Refused UnknownFrom) (Some first.version) 2) lacks.same_link lacks.is (lacks_from lacks.lacks)
    by_doc gate last end (inr (inl lacks)) = by_same seen base asked side link last after end (ended (outcomes.Refused UnknownTo) (Some first.version) 2) lacks.same_link lacks.is (lacks_to lacks.has lacks.lacks)
    by_doc gate last end (inr (inr (knows, walked))) = ends_walked (record { from = knows.from; to = knows.to }) gate last end walked

  -- what the exchange for the stops document led to
  by_stops : (gate : List ℕ) (after last : X) (end : ArriveEnd) (got : Got) → OneExchange base s.at (stops_target_of base) None (seen mid) (seen after) got →
      AfterGotStops seen base asked gate first (seen mid).faults (seen after).faults after last end got → IsRight seen base asked side link last end
  by_stops gate after last end None x leads =
      by_same seen base asked side link last after end (ended (outcomes.LinkFault (seen mid).faults (seen after).faults) (Some first.version) 2) leads.same_link leads.is (stops_failed after x)
  by_stops gate after last end (Some reply) x (said, says, leads) =
      let read : said ≡ Ok s.at.doc = stops_read base x.left x.request reply said x.honest.honest.stands x.asks x.replied says ∙ ap Ok (same_doc s.at x.left x.honest.later) in
      let S : Result StopsDoc PeerFault → Type 0 = λ r. AfterSaidStops seen base asked gate first reply after last end r in
      by_doc after (Some reply) x gate last end (subst S read leads)

module _ {X : Type 0} (seen : X → LinkSeen) (base : BaseParts) (asked : ArriveQuery) (side : Side) (link : X) (honest : IsHonestWith (seen link) base side) where
  refused_at_once : (fault : QueryFault) → IsRefusal (forward_query asked) (Some fault) → IsRefused base side asked None [] fault
  refused_at_once HorizonRange deserved = record { deserved = deserved; no_version = refl; requests_are = refl }
  refused_at_once SameStop deserved = record { deserved = deserved; no_version = refl; requests_are = refl }
  refused_at_once UnknownFrom deserved = absurd deserved
  refused_at_once UnknownTo deserved = absurd deserved

  -- it was refused at once
  at_once : (fault : QueryFault) → IsRefusal (forward_query asked) (Some fault) → IsRight seen base asked side link link (ended (outcomes.Refused fault) None 0)
  at_once fault deserved = record {
    left = side;
    honest = leaves_alone base side (seen link) honest;
    requests = [];
    recorded = no_requests (seen link).recorded base.authority;
    count = refl;
    at = side;
    named = refl;
    ends = refused_at_once fault deserved;
  }

  -- the exchange with the time gate failed
  gate_failed : IsRefusal (forward_query asked) None → (after : X) → OneExchange base side (gate_target_of base asked.arrive) asked.known (seen link) (seen after) None →
      IsRight seen base asked side link after (ended (outcomes.LinkFault (seen link).faults (seen after).faults) None 1)
  gate_failed accepted after x = record {
    left = x.left;
    honest = x.honest;
    requests = gate_request base asked ∷ [];
    recorded = x.recorded;
    count = refl;
    at = x.left;
    named = refl;
    ends = record { accepted = accepted; front = refl; rose = record { from = no_less (seen link).faults; to = no_less (seen after).faults; rose = x.rose refl } };
  }

  -- what the exchange with the time gate led to
  by_gate : IsRefusal (forward_query asked) None → (after last : X) (end : ArriveEnd) (got : Got) → OneExchange base side (gate_target_of base asked.arrive) asked.known (seen link) (seen after) got →
      AfterGotGate seen base asked (seen link).faults (seen after).faults after last end got → IsRight seen base asked side link last end
  by_gate accepted after last end None x leads =
      by_same seen base asked side link last after end (ended (outcomes.LinkFault (seen link).faults (seen after).faults) None 1) leads.same_link leads.is (gate_failed accepted after x)
  by_gate accepted after last end (Some reply) x (said, says, leads) =
      let read = gate_read base x.left asked x.request reply said x.honest.honest.stands x.asks x.replied says in
      let S : Result PageName PeerFault → Type 0 = λ r. AfterSaidGate seen base asked reply after last end r in
      let stops = subst S read.2 leads in
      let s = sent_on seen base asked side x.left link after read.0 accepted x.honest x.recorded read.1 in
      by_stops seen base asked side link after read.0 s reply stops.after last end stops.got (one_exchange base s.at (stops_target_of base) None (seen after) (seen stops.after) stops.got s.by_gate.honest stops.exchange) stops.leads

  by_refusal : (last : X) (end : ArriveEnd) (refusal : Option QueryFault) → IsRefusal (forward_query asked) refusal → AfterRefusal seen base asked link last end refusal → IsRight seen base asked side link last end
  by_refusal last end (Some fault) is leads = by_same seen base asked side link last link end (ended (outcomes.Refused fault) None 0) leads.0 leads.1 (at_once fault is)
  by_refusal last end None is leads =
      by_gate is leads.after last end leads.got (one_exchange base side (gate_target_of base asked.arrive) asked.known (seen link) (seen leads.after) leads.got honest leads.exchange) leads.leads

pub latest_ends_right : {X : Type 0} (seen : X → LinkSeen) → LatestEndsRight seen
latest_ends_right seen side base asked before after end honest arrives = by_refusal seen base asked side before honest after end arrives.refusal arrives.is_refusal arrives.leads

-- a count that increased within others increased from the one to the other of these
rose_over : (before after low high : ℕ) → RoseWithin before after low high → Rose before after
rose_over before after low high rose = once before after low high rose.from rose.to rose.rose where
  once : (a b low high : ℕ) → a ≤ low → high ≤ b → Rose low high → Rose a b
  once a b low high from to rose = omega arith

-- a question that may be asked is not refused
not_refused : (base : BaseParts) (side : Side) (asked : ArriveQuery) (version : Option ℕ) (requests : List (List ℕ)) (fault : QueryFault) → IsRefusal (forward_query asked) None → HasEnds side.doc (forward_query asked) →
    IsRefused base side asked version requests fault → ⊥
not_refused base side asked version requests HorizonRange accepted ends refused = refused.deserved accepted.0
not_refused base side asked version requests SameStop accepted ends refused = accepted.1 refused.deserved.1
not_refused base side asked version requests UnknownFrom accepted ends refused = refused.no_from ends.from
not_refused base side asked version requests UnknownTo accepted ends refused = refused.no_to ends.to

module _ {X : Type 0} (seen : X → LinkSeen) (base : BaseParts) (asked : ArriveQuery) (side : Side) (before after : X) (end : ArriveEnd) (right : IsRight seen base asked side before after end) where
  -- the stops document is the one of the begin
  doc_there : (version : Option ℕ) → IsNamed seen base asked side right.at right.left before after version → right.at.doc ≡ side.doc
  doc_there None same = ap (λ (s : Side). s.doc) same ∙ same_doc side right.left right.honest.later
  doc_there (Some version) named = same_doc side right.at named.first.later

  ends_with : (answer : Option Journey) → HasLatest base right.at asked end.version right.requests answer → EndsWithLatest seen base asked side before after end answer
  ends_with answer has =
      let N : Option ℕ → Type 0 = λ v. IsNamed seen base asked side right.at right.left before after v in
      let T : List (List ℕ) → Type 0 = λ l. TellsRequests (seen before).recorded (seen after).recorded base.authority l in
      record {
        left = right.left;
        honest = right.honest;
        at = right.at;
        version = has.number;
        version_is = has.at_version;
        named = subst N has.at_version right.named;
        is_latest = has.is_latest;
        names = has.names;
        are_needed = has.are_needed;
        recorded = subst T has.requests_are right.recorded;
        count = right.count ∙ ap length has.requests_are;
      }

  found_by : (outcome : Outcome) → end.outcome ≡ outcome → IsRefusal (forward_query asked) None → HasEnds right.at.doc (forward_query asked) → ¬ Rose (seen before).faults (seen after).faults →
      EndsAt base right.at asked end.version right.requests (seen before).faults (seen after).faults outcome →
      (answer : Option Journey) × (end.outcome ≡ answered answer) × EndsWithLatest seen base asked side before after end answer
  found_by (outcomes.Found journey) is accepted ends no_fault at = (Some journey, is, ends_with (Some journey) at)
  found_by outcomes.NoJourney is accepted ends no_fault at = (None, is, ends_with None at)
  found_by (outcomes.Refused fault) is accepted ends no_fault at = absurd (not_refused base right.at asked end.version right.requests fault accepted ends at)
  found_by (outcomes.LinkFault low high) is accepted ends no_fault at = absurd (no_fault (rose_over (seen before).faults (seen after).faults low high at.rose))
  found_by (outcomes.PeerWrong reply fault) is accepted ends no_fault at = absurd at

pub latest_is_found : {X : Type 0} (seen : X → LinkSeen) → LatestIsFound seen
latest_is_found {X} seen side base asked before after end honest accepted known no_fault arrives =
    let right : IsRight seen base asked side before after end = latest_ends_right seen side base asked before after end honest arrives in
    let E : StopsDoc → Type 0 = λ d. HasEnds d (forward_query asked) in
    found_by seen base asked side before after end right end.outcome refl accepted (subst E (sym (doc_there seen base asked side before after end right end.version right.named)) known) no_fault right.ends
