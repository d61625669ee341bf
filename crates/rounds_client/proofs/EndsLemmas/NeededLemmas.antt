-- The best chains of all connections are chains of the needed pages.
use Rattle.std.proofs.Common.{◌≡◌, ℕ, ◌<◌, ◌≤◌, inl, inr, List, [], ◌∷◌, ◌++◌, Option, Some, None, ap, sym, subst, ◌∙◌, arith}
use Rattle.std.specs.List.{All}
use Rattle.std.specs.Prelude.{◌↔◌}
use Rattle.std.proofs.lemmas.List.{append-nil, append_assoc}
use Rattle.lc_model.specs.Connection.{NoneArrivesEarly, last_departure}
use Rattle.lc_model.specs.Journey.{IsBest, IsJourney, IsLeastArrival, arrives_at}
use Rattle.lc_model.specs.Leg.{IsChain, IsLegOf, IsListBest, in_time}
use Rattle.lc_model.specs.declared.connection.Connection.{Connection}
use Rattle.lc_model.specs.declared.doc.StopsDoc.{StopsDoc}
use Rattle.lc_model.specs.declared.journey.Journey.{Journey}
use Rattle.lc_model.specs.declared.query.Query.{Query}
use Rattle.lc_model.specs.declared.ride.Ride.{Ride}
use Rattle.lc_model.specs.Versions.Pages.{CutPage}
use Rattle.change_rounds.specs.Fewest.{IsFewestAnswer, IsFewestChain}
use Rattle.convoy.specs.PageLaws.Chain.{ArePagesOf, connections_along}
use Rattle.convoy.specs.PageLaws.Needed.{IsTakenUntilOver, needed_pages}
use Rattle.convoy.specs.PageLaws.Rides.{pages_on}
use Rattle.convoy.specs.PageLaws.Stop.{bound_of}
use Rattle.convoy.proofs.PageLawsLemmas.AlongLemmas.{chains_are_there}
use Rattle.convoy.proofs.PageLawsLemmas.NeededLemmas.{always_stops, last_taken, same_best}
use Rattle.convoy.proofs.PageLawsLemmas.PartJourneyLemmas.{chain_before, chain_of_front}
use Rattle.convoy.proofs.PageLawsLemmas.StopLemmas.{all_of_rest}
use Rattle.convoy.proofs.PageLawsLemmas.TakenLemmas.{are_taken, left_later}
use Rattle.rounds_client.specs.Ends.Needed.{BestAreInNeeded, FewestAreInNeeded}
use Rattle.rounds_client.proofs.EndsLemmas.PartLemmas.{fewest_of_part}

-- what departs after a moment arrives after an earlier one
arrive_after : (moment last : ℕ) (list : List Connection) → moment ≤ last → All (λ (c : Connection). last < c.dep) list → NoneArrivesEarly list → All (λ (c : Connection). moment < c.arr) list
arrive_after moment last list before late forward k d within = omega (arith, late k d within, forward k d within)

-- a best journey arrives by the bound
by_bound : (query : Query) (doc : StopsDoc) (list : List Connection) (best : Option ℕ) (last : ℕ) → IsListBest query doc list best → bound_of query best ≤ last → (journey : Journey) → IsBest (IsLegOf (in_time query list)) query doc journey → arrives_at journey ≤ last
by_bound query doc list None last none by journey is = absurd (none journey is.is_journey)
by_bound query doc list (Some arrival) last ((other, is_other, arrives), least) by journey is = let l = is.is_earliest other is_other in omega arith

module _ (list : List Connection) (first : CutPage) (rest : List CutPage) (query : Query) (doc : StopsDoc) (pages : ArePagesOf list first rest) (forward : NoneArrivesEarly list) where
  -- the chains of what was taken are chains of all connections
  chain_of_all : (taken left : List CutPage) → pages_on first rest query ≡ taken ++ left → (journey : Journey) → IsChain query doc (connections_along taken) journey → IsChain query doc list journey
  chain_of_all taken left are journey is =
      let parts = are_taken list first rest query taken left pages forward are in
      let P : List Connection → Type 0 = λ l. IsChain query doc l journey in
      (chains_are_there list first rest query doc journey pages forward).1
      (subst P (sym parts.parts) (chain_of_front query doc (connections_along taken) (connections_along left) journey is))

  -- a best chain is one of what was taken up to a page that departs last at the bound or later
  best_up_to : (before : List CutPage) (page : CutPage) (left : List CutPage) (best : Option ℕ) (last : ℕ) → pages_on first rest query ≡ (before ++ page ∷ []) ++ left → last_departure page.connections ≡ Some last →
      IsListBest query doc list best → bound_of query best ≤ last → (journey : Journey) → IsBest (IsLegOf (in_time query list)) query doc journey → IsChain query doc (connections_along (before ++ page ∷ [])) journey
  best_up_to before page left best last are is_last is_best by_last journey is =
      let taken = before ++ page ∷ [] in
      let parts = are_taken list first rest query taken left pages forward are in
      let late = left_later taken left last parts.follow (last_taken before page last is_last) in
      let by = by_bound query doc list best last is_best by_last journey is in
      let left_forward = all_of_rest (λ (c : Connection). c.dep ≤ c.arr) (connections_along taken) (connections_along left) parts.forward in
      let P : List Connection → Type 0 = λ l. IsChain query doc l journey in
      let there = subst P parts.parts ((chains_are_there list first rest query doc journey pages forward).0 is.is_journey) in
      chain_before query doc (arrives_at journey) (connections_along taken) (connections_along left) journey parts.in_order parts.forward
      (arrive_after (arrives_at journey) last (connections_along left) by late left_forward) (omega arith) there

  -- a best chain is one of what a client takes until it is over
  best_is_taken : (taken : List CutPage) (best : Option ℕ) → IsListBest query doc list best → (until : IsTakenUntilOver query doc (pages_on first rest query) taken) → (journey : Journey) → IsBest (IsLegOf (in_time query list)) query doc journey →
      IsChain query doc (connections_along taken) journey
  best_is_taken taken best is_best until journey is =
      elim until.ends [
        | inl nothing ↦
            (let all : pages_on first rest query ≡ taken = until.are ∙ ap (λ l. taken ++ l) nothing ∙ append-nil taken in
            subst (λ (l : List CutPage). IsChain query doc (connections_along l) journey) all ((chains_are_there list first rest query doc journey pages forward).0 is.is_journey))
        | inr found ↦
            (let over = found.3 in
            let are : pages_on first rest query ≡ (found.0 ++ found.1 ∷ []) ++ until.left = until.are ∙ ap (λ l. l ++ until.left) found.2 in
            let one : IsListBest query doc list over.best = (same_best list first rest query doc pages forward found.0 found.1 until.left over.best over.last (are ∙ append_assoc found.0 (found.1 ∷ []) until.left) over.is_last over.by_last).0 over.is_best in
            subst (λ (l : List CutPage). IsChain query doc (connections_along l) journey) (sym found.2)
            (best_up_to found.0 found.1 until.left over.best over.last are over.is_last one over.by_last journey is))
      ]

pub best_are_in_needed : BestAreInNeeded
best_are_in_needed list first rest query doc best journey pages forward is_best is =
    best_is_taken list first rest query doc pages forward (needed_pages first rest query best) best is_best (always_stops list first rest query doc pages forward best is_best) journey is

pub fewest_are_in_needed : FewestAreInNeeded
fewest_are_in_needed list first rest query doc best journey pages forward is_best =
    let needed = needed_pages first rest query best in
    let until = always_stops list first rest query doc pages forward best is_best in
    fewest_of_part (IsLegOf (in_time query (connections_along needed))) (IsLegOf (in_time query list)) query doc
    (λ other is. chain_of_all list first rest query doc pages forward needed until.left until.are other is)
    (λ other is. best_are_in_needed list first rest query doc best other pages forward is_best is) best is_best journey

-- the same over rides whose journeys are the chains of all connections
pub fewest_of_rides : (IsRide : Ride → Type 0) (list : List Connection) (first : CutPage) (rest : List CutPage) (query : Query) (doc : StopsDoc) (best : Option ℕ) (answer : Option Journey) → ArePagesOf list first rest → NoneArrivesEarly list → IsListBest query doc list best →
    ((journey : Journey) → IsJourney IsRide query doc journey → IsChain query doc list journey) → ((journey : Journey) → IsChain query doc list journey → IsJourney IsRide query doc journey) → IsLeastArrival IsRide query doc best →
    (IsFewestChain query doc (connections_along (needed_pages first rest query best)) answer ↔ IsFewestAnswer IsRide query doc answer)
fewest_of_rides IsRide list first rest query doc best answer pages forward is_best chain journey least =
    let needed = needed_pages first rest query best in
    let until = always_stops list first rest query doc pages forward best is_best in
    fewest_of_part (IsLegOf (in_time query (connections_along needed))) IsRide query doc
    (λ other is. journey other (chain_of_all list first rest query doc pages forward needed until.left until.are other is))
    (λ other is. best_are_in_needed list first rest query doc best other pages forward is_best (record {
      is_journey = chain other is.is_journey;
      is_earliest = λ third k. is.is_earliest third (journey third k);
    })) best least answer
