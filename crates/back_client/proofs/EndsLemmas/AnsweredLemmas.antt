-- Answers of a latest departure at a version, and the pages for them. They are one, and stay. Who goes back until it is over has them.
use Rattle.std.proofs.Common.{◌≡◌, ℕ, List, ◌++◌, Option, Some, None, refl, ap, sym, subst, ◌∙◌}
use Rattle.std.proofs.lemmas.List.{map-append}
use Rattle.lc_model.specs.Journey.{IsJourney}
use Rattle.lc_model.specs.Leg.{IsLegOf, in_time}
use Rattle.lc_model.specs.Ride.{IsRideAt}
use Rattle.lc_model.specs.declared.doc.StopsDoc.{StopsDoc}
use Rattle.lc_model.specs.declared.journey.Journey.{Journey}
use Rattle.lc_model.specs.declared.page.PageName.{PageName}
use Rattle.lc_model.specs.declared.query.Query.{Query}
use Rattle.lc_model.specs.declared.ride.Ride.{Ride}
use Rattle.lc_model.specs.declared.run.Run.{Run}
use Rattle.lc_model.specs.Versions.Pages.{CutPage}
use Rattle.live_calls.proofs.LawLemmas.{one_live_list}
use Rattle.lc_world.specs.Sides.PageAt.{named}
use Rattle.lc_world.specs.Sides.Side.{IsValidSide, Side}
use Rattle.convoy.proofs.PageLawsLemmas.JourneysLemmas.{chain_is_journey, journey_is_chain}
use Rattle.convoy.specs.ClientLaws.Answered.{names_at}
use Rattle.convoy.specs.ClientLaws.Published.{AreLiveAt, IsPublished, Published}
use Rattle.convoy.proofs.ClientLawsLemmas.PublishedLemmas.{is_lawful, is_timetable, one_published, stays_by_news}
use Rattle.back_client.specs.Ends.LatestOf.{IsLatestOf}
use Rattle.back_client.specs.Ends.NeededBack.{AreNeededBack, IsTakenBackUntilOver, connections_back, pages_back}
use Rattle.back_client.proofs.EndsLemmas.BackLemmas.{one_list_of_needed_back}
use Rattle.back_client.proofs.EndsLemmas.JourneyLemmas.{latest_journeys, latest_over}
use Rattle.back_client.proofs.EndsLemmas.TakenLemmas.{takes_the_needed_back}
use Rattle.back_scan.specs.Latest.{IsLatestDeparture, IsListLatest}
use Rattle.back_scan.specs.StandsFor.{IsLatestChain}
use Rattle.back_scan.proofs.OneLatestLemmas.{latest_departures_are_one}
use Rattle.back_client.specs.Ends.Latest.{LatestAt, NeededBackAt, departure_of}
use Rattle.back_client.specs.Ends.Laws.{LatestStays, NeededBackStays, OneDepartureAt, OneListOfNeededBackAt}
use Rattle.back_client.proofs.EndsLemmas.FrontLemmas.{IsAskedBack, front_of_needed}

-- a latest answer leaves at the latest departure
latest_from : (IsRide : Ride → Type 0) (query : Query) (doc : StopsDoc) (answer : Option Journey) → IsLatestOf IsRide query doc answer → IsLatestDeparture IsRide query doc (departure_of answer)
latest_from IsRide query doc None is = is
latest_from IsRide query doc (Some journey) is = ((journey, is.is_journey, refl), is.is_latest)

-- the answers at a version leave at one moment
pub one_departure_at : OneDepartureAt
one_departure_at side version query a b first second =
    let same : first.live ≡ second.live = one_live_list _ _ _ first.live second.live first.are_live second.are_live in
    let L : List Run → Type 0 = λ live. IsLatestOf (IsRideAt live) query side.doc a in
    latest_departures_are_one (IsRideAt second.live) query side.doc (departure_of a) (departure_of b) (latest_from (IsRideAt second.live) query side.doc a (subst L same first.is_latest))
    (latest_from (IsRideAt second.live) query side.doc b second.is_latest)

-- the needed pages are one list
pub one_list_of_needed_back_at : OneListOfNeededBackAt
one_list_of_needed_back_at side version query a b first second =
    let same : first.published ≡ second.published = one_published side version first.published second.published first.is_published second.is_published in
    let N : Published → Type 0 = λ p. AreNeededBack (IsRideAt p.live) query side.doc p.first p.rest first.needed in
    first.names_are
    ∙ ap (names_at version) (one_list_of_needed_back second.published.live query side.doc second.published.first second.published.rest first.needed second.needed (subst N same first.are_needed) second.are_needed)
    ∙ sym second.names_are

pub latest_stays : LatestStays
latest_stays query answer =
    stays_by_news (λ side version. LatestAt side version query answer) (λ side more version same. (
      (λ is. record { live = is.live; are_live = (same is.live).0 is.are_live; is_latest = is.is_latest }),
      (λ is. record { live = is.live; are_live = (same is.live).1 is.are_live; is_latest = is.is_latest }),
    ))

pub needed_back_stays : NeededBackStays
needed_back_stays query names =
    stays_by_news (λ side version. NeededBackAt side version query names) (λ side more version same. (
      (λ is. record {
        published = is.published;
        is_published = record { are_live = (same is.published.live).0 is.is_published.are_live; are_connections = is.is_published.are_connections; are_pages = is.is_published.are_pages };
        needed = is.needed;
        are_needed = is.are_needed;
        names_are = is.names_are;
      }),
      (λ is. record {
        published = is.published;
        is_published = record { are_live = (same is.published.live).1 is.is_published.are_live; are_connections = is.is_published.are_connections; are_pages = is.is_published.are_pages };
        needed = is.needed;
        are_needed = is.are_needed;
        names_are = is.names_are;
      }),
    ))

-- a journey over the runs that are live is one over the runs of an answer
pub of_live : (side : Side) (version : ℕ) (query : Query) (live other : List Run) (journey : Journey) → AreLiveAt side version live → AreLiveAt side version other → IsJourney (IsRideAt live) query side.doc journey →
    IsJourney (IsRideAt other) query side.doc journey
of_live side version query live other journey are other_are is =
    let same : live ≡ other = one_live_list _ _ _ live other are other_are in
    let J : List Run → Type 0 = λ l. IsJourney (IsRideAt l) query side.doc journey in
    subst J same is

module _ (side : Side) (version : ℕ) (published : Published) (valid : IsValidSide side) (is_published : IsPublished side version published) (query : Query) where
  -- the latest departure of journeys is that of all connections
  latest_in_list : (latest : Option ℕ) → IsLatestDeparture (IsRideAt published.live) query side.doc latest → IsListLatest query side.doc published.list latest
  latest_in_list latest =
      let table = is_timetable side version published valid is_published in
      latest_over (IsRideAt published.live) (IsLegOf (in_time query published.list)) query side.doc latest (λ journey. journey_is_chain published.live published.list query side.doc journey table)
      (λ journey. chain_is_journey published.live published.list query side.doc journey table)

  -- what was asked for back is a front of the needed pages
  pub front_at : (asked : List CutPage) → IsAskedBack query side.doc (pages_back published.first published.rest query) asked → (names : List PageName) → NeededBackAt side version query names →
      (more : List CutPage) × (names ≡ names_at version asked ++ names_at version more)
  front_at asked back names needed =
      let lawful = is_lawful side version published valid is_published in
      let same : needed.published ≡ published = one_published side version needed.published published needed.is_published is_published in
      let N : Published → Type 0 = λ p. AreNeededBack (IsRideAt p.live) query side.doc p.first p.rest needed.needed in
      let are : AreNeededBack (IsRideAt published.live) query side.doc published.first published.rest needed.needed = subst N same needed.are_needed in
      let front = front_of_needed published.list published.first published.rest query side.doc are.latest lawful.pages lawful.forward (latest_in_list are.latest are.is_latest) asked back in
      (front.0, needed.names_are ∙ ap (names_at version) (are.are ∙ front.1) ∙ map-append (λ (p : CutPage). named version p.departs) asked front.0)

  -- what was taken until one is over answers
  module _ (taken : List CutPage) (answer : Option Journey) (until : IsTakenBackUntilOver query side.doc (pages_back published.first published.rest query) taken) (chain : IsLatestChain query side.doc (connections_back taken) answer) where
    is_latest : IsLatestOf (IsRideAt published.live) query side.doc answer
    is_latest =
        let lawful = is_lawful side version published valid is_published in
        let table = is_timetable side version published valid is_published in
        latest_journeys published.list published.first published.rest query side.doc taken (IsRideAt published.live) answer lawful.pages lawful.forward
        (λ journey. chain_is_journey published.live published.list query side.doc journey table) (λ journey. journey_is_chain published.live published.list query side.doc journey table) until chain

    pub latest_at : LatestAt side version query answer
    latest_at = record { live = published.live; are_live = is_published.are_live; is_latest = is_latest }

    pub needed_at : NeededBackAt side version query (names_at version taken)
    needed_at =
        let lawful = is_lawful side version published valid is_published in
        let latest = latest_from (IsRideAt published.live) query side.doc answer is_latest in
        record {
          published = published;
          is_published = is_published;
          needed = taken;
          are_needed = record {
            latest = departure_of answer;
            is_latest = latest;
            are = (takes_the_needed_back published.list published.first published.rest query side.doc taken (departure_of answer) lawful.pages lawful.forward (latest_in_list (departure_of answer) latest) until).0;
          };
          names_are = refl;
        }
