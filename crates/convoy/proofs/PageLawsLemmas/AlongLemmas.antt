-- Rides along the links to the next page.
use Rattle.std.proofs.Common.{◌≡◌, ℕ, ◌<◌, ◌≤◌, List, ◌++◌, Option, Some, None, sym, subst, ◌∙◌, arith}
use Rattle.std.specs.Prelude.{reverse}
use Rattle.std.specs.List.{All}
use Rattle.lc_model.specs.Connection.{InDepartureOrder, NoneArrivesEarly}
use Rattle.lc_model.specs.Leg.{IsChain, IsLegOf, IsListBest, in_time}
use Rattle.lc_model.specs.declared.connection.Connection.{Connection}
use Rattle.lc_model.specs.declared.doc.StopsDoc.{StopsDoc}
use Rattle.lc_model.specs.declared.journey.Journey.{Journey}
use Rattle.lc_model.specs.declared.query.Query.{Query}
use Rattle.lc_model.specs.declared.ride.Ride.{Ride}
use Rattle.lc_model.specs.Versions.Pages.{CutPage, departing}
use Rattle.convoy.specs.PageLaws.Chain.{ArePagesOf, along_previous, connections_along}
use Rattle.convoy.specs.PageLaws.Rides.{ChainsAreThere, EarlyMayGo, LeastIsThere, LeastWithoutEarly, LegsStandThere, LegsThereAreLegs, connections_on}
use Rattle.convoy.proofs.PageLawsLemmas.ChainLemmas.{before_moment, part_to}
use Rattle.convoy.proofs.PageLawsLemmas.DeparturesLemmas.{part_at, sorted_from_order, whole_part}
use Rattle.convoy.proofs.PageLawsLemmas.PartJourneyLemmas.{chain_behind, chain_of_rest, least_over, leg_stands_behind}
use Rattle.convoy.proofs.PageLawsLemmas.LegLemmas.{in_time_parts, leg_of_rest}
use Rattle.convoy.proofs.PageLawsLemmas.RowLemmas.{row, whole_by_links}

-- a list as a front that departs before a moment, and a rest
pub record IsParted (moment : ℕ) (list rest : List Connection) : Type 0 where
  pub front : List Connection
  pub whole : front ++ rest ≡ list
  pub early : All (λ (c : Connection). c.dep < moment) front

-- the pages from the one for the moment on part the list so
pub parted_by_links : (list : List Connection) (first : CutPage) (rest : List CutPage) (query : Query) → ArePagesOf list first rest → IsParted query.leave list (connections_on first rest query)
parted_by_links list first rest query pages =
    let is = row list first rest pages in
    record {
      front = connections_along (reverse (along_previous first rest query.leave));
      whole = whole_by_links list first rest query.leave is;
      early = before_moment first rest query.leave is.follow;
    }

-- what departs from the moment on parts the list at that moment
pub parted_by_moment : (list : List Connection) (moment : ℕ) → InDepartureOrder list → IsParted moment list (departing moment None list)
parted_by_moment list moment in_order =
    record {
      front = departing 0 (Some moment) list;
      whole = part_at 0 moment list (omega arith) (sorted_from_order list in_order) ∙ whole_part 0 list (λ k d within. omega arith);
      early = part_to 0 moment list;
    }

module _ (query : Query) (list rest : List Connection) (parted : IsParted query.leave list rest) where
  pub leg_there : (ride : Ride) → query.leave ≤ ride.dep → IsLegOf (in_time query list) ride → IsLegOf (in_time query rest) ride
  leg_there ride late leg =
      leg_stands_behind query query.leave parted.front rest ride parted.early late (subst (λ l. IsLegOf (in_time query l) ride) (sym parted.whole) leg)

  pub leg_back : (ride : Ride) → IsLegOf (in_time query rest) ride → IsLegOf (in_time query list) ride
  leg_back ride leg =
      subst (λ l. IsLegOf (in_time query l) ride) parted.whole
      (subst (λ l. IsLegOf l ride) (sym (in_time_parts query parted.front rest)) (leg_of_rest (in_time query parted.front) (in_time query rest) ride leg))

  pub chain_there : (doc : StopsDoc) (journey : Journey) → InDepartureOrder list → NoneArrivesEarly list → IsChain query doc list journey → IsChain query doc rest journey
  chain_there doc journey in_order forward is =
      chain_behind query doc parted.front rest journey (subst (λ l. InDepartureOrder l) (sym parted.whole) in_order) (subst (λ l. NoneArrivesEarly l) (sym parted.whole) forward)
      parted.early (subst (λ l. IsChain query doc l journey) (sym parted.whole) is)

  pub chain_back : (doc : StopsDoc) (journey : Journey) → IsChain query doc rest journey → IsChain query doc list journey
  chain_back doc journey is = subst (λ l. IsChain query doc l journey) parted.whole (chain_of_rest query doc parted.front rest journey is)

  pub least_there : (doc : StopsDoc) (best : Option ℕ) → InDepartureOrder list → NoneArrivesEarly list → IsListBest query doc list best → IsListBest query doc rest best
  least_there doc best in_order forward least =
      least_over (IsLegOf (in_time query list)) (IsLegOf (in_time query rest)) query doc best (λ journey. chain_there doc journey in_order forward) (chain_back doc) least

  pub least_back : (doc : StopsDoc) (best : Option ℕ) → InDepartureOrder list → NoneArrivesEarly list → IsListBest query doc rest best → IsListBest query doc list best
  least_back doc best in_order forward least =
      least_over (IsLegOf (in_time query rest)) (IsLegOf (in_time query list)) query doc best (chain_back doc) (λ journey. chain_there doc journey in_order forward) least

pub legs_stand_there : LegsStandThere
legs_stand_there list first rest query ride pages late leg = leg_there query list (connections_on first rest query) (parted_by_links list first rest query pages) ride late leg

pub legs_there_are_legs : LegsThereAreLegs
legs_there_are_legs list first rest query ride pages leg = leg_back query list (connections_on first rest query) (parted_by_links list first rest query pages) ride leg

pub chains_are_there : ChainsAreThere
chains_are_there list first rest query doc journey pages forward =
    let parted = parted_by_links list first rest query pages in
    let there = connections_on first rest query in
    (chain_there query list there parted doc journey pages.in_order forward, chain_back query list there parted doc journey)

pub least_is_there : LeastIsThere
least_is_there list first rest query doc best pages forward =
    let parted = parted_by_links list first rest query pages in
    let there = connections_on first rest query in
    (least_there query list there parted doc best pages.in_order forward, least_back query list there parted doc best pages.in_order forward)

pub early_may_go : EarlyMayGo
early_may_go list query doc journey in_order forward =
    let parted = parted_by_moment list query.leave in_order in
    let there = departing query.leave None list in
    (chain_there query list there parted doc journey in_order forward, chain_back query list there parted doc journey)

pub least_without_early : LeastWithoutEarly
least_without_early list query doc best in_order forward =
    let parted = parted_by_moment list query.leave in_order in
    let there = departing query.leave None list in
    (least_there query list there parted doc best in_order forward, least_back query list there parted doc best in_order forward)
