-- Answers and needed pages at a version are one, and stay.
use Rattle.std.proofs.Common.{◌≡◌, ℕ, inl, inr, List, [], ◌∷◌, ◌++◌, Option, Some, None, refl, ap, sym, subst, ◌∙◌}
use Rattle.std.proofs.lemmas.List.{append-nil, append_assoc}
use Rattle.lc_model.specs.Connection.{NoneArrivesEarly}
use Rattle.lc_model.specs.Journey.{IsAnswer, IsJourney, IsLeastArrival, arrives_at}
use Rattle.lc_model.specs.Leg.{IsChain, IsLegOf, IsListBest, in_time}
use Rattle.lc_model.specs.Ride.{IsRideAt}
use Rattle.lc_model.specs.declared.connection.Connection.{Connection}
use Rattle.lc_model.specs.declared.doc.StopsDoc.{StopsDoc}
use Rattle.lc_model.specs.declared.journey.Journey.{Journey}
use Rattle.lc_model.specs.declared.query.Query.{Query}
use Rattle.lc_model.specs.declared.run.Run.{Run}
use Rattle.lc_model.proofs.OneValueLemmas.{one_arrival, one_least_arrival}
use Rattle.lc_model.specs.Versions.Pages.{CutPage}
use Rattle.csa_scan.specs.StandsFor.{IsBestChain}
use Rattle.convoy.proofs.PageLawsLemmas.JourneysLemmas.{chain_is_journey, journey_is_chain}
use Rattle.convoy.proofs.PageLawsLemmas.RidesAreLegsLemmas.{Timetable}
use Rattle.live_calls.proofs.LawLemmas.{one_live_list}
use Rattle.convoy.specs.PageLaws.Chain.{ArePagesOf, connections_along}
use Rattle.convoy.specs.PageLaws.Needed.{AreNeeded, IsTakenUntilOver}
use Rattle.convoy.specs.PageLaws.Rides.{connections_on, pages_on}
use Rattle.convoy.proofs.PageLawsLemmas.AlongLemmas.{chains_are_there, least_is_there}
use Rattle.convoy.proofs.PageLawsLemmas.NeededLemmas.{one_list_of_needed, same_best, takes_the_needed}
use Rattle.convoy.proofs.PageLawsLemmas.PartJourneyLemmas.{chain_of_front, least_over}
use Rattle.convoy.proofs.PageLawsLemmas.TakenLemmas.{are_taken}
use Rattle.convoy.specs.ClientLaws.Answered.{AnswersAt, NeededAt, answer_of, names_at}
use Rattle.convoy.specs.ClientLaws.Laws.{AnswersStay, NeededStays, OneArrivalAt, OneListOfNeededAt}
use Rattle.convoy.specs.ClientLaws.Published.{Published}
use Rattle.convoy.proofs.ClientLawsLemmas.PublishedLemmas.{one_published, stays_by_news}

pub one_arrival_at : OneArrivalAt
one_arrival_at side version query a b first second =
    let same : first.live ≡ second.live = one_live_list _ _ _ first.live second.live first.are_live second.are_live in
    one_arrival second.live query side.doc a b (subst (λ (l : List Run). IsAnswer (IsRideAt l) query side.doc a) same first.is_answer) second.is_answer

pub one_list_of_needed_at : OneListOfNeededAt
one_list_of_needed_at side version query a b first second =
    let same : first.published ≡ second.published = one_published side version first.published second.published first.is_published second.is_published in
    let moved : AreNeeded (IsRideAt second.published.live) query side.doc second.published.first second.published.rest first.needed =
    subst (λ (p : Published). AreNeeded (IsRideAt p.live) query side.doc p.first p.rest first.needed) same first.are_needed in
    first.names_are
    ∙ ap (names_at version) (one_list_of_needed second.published.live query side.doc second.published.first second.published.rest first.needed second.needed moved second.are_needed)
    ∙ sym second.names_are

pub answers_stay : AnswersStay
answers_stay query answer =
    stays_by_news (λ side version. AnswersAt side version query answer) (λ side more version same. (
      (λ is. record { live = is.live; are_live = (same is.live).0 is.are_live; is_answer = is.is_answer }),
      (λ is. record { live = is.live; are_live = (same is.live).1 is.are_live; is_answer = is.is_answer }),
    ))

pub needed_stays : NeededStays
needed_stays query names =
    stays_by_news (λ side version. NeededAt side version query names) (λ side more version same. (
      (λ is. record {
        published = is.published;
        is_published = record { are_live = (same is.published.live).0 is.is_published.are_live; are_connections = is.is_published.are_connections; are_pages = is.is_published.are_pages };
        needed = is.needed;
        are_needed = is.are_needed;
        names_are = is.names_are;
      }),
      (λ is. record {
        published = is.published;
        is_published = record { are_live = (same is.published.live).1 is.is_published.are_live; are_connections = is.is_published.are_connections; are_pages = is.is_published.are_pages };
        needed = is.needed;
        are_needed = is.are_needed;
        names_are = is.names_are;
      }),
    ))

-- when it arrives
abbrev pub best_of : Option Journey → Option ℕ
best_of (Some journey) = Some (arrives_at journey)
best_of None = None

-- the arrival of a best chain is the least
best_chain_is_least : (query : Query) (doc : StopsDoc) (list : List Connection) (journey : Option Journey) → IsBestChain query doc list journey → IsListBest query doc list (best_of journey)
best_chain_is_least query doc list None is = is
best_chain_is_least query doc list (Some journey) is = ((journey, is.is_journey, refl), is.is_earliest)

-- a journey that arrives at the least arrival is the answer, and where there is none there is no journey
answer_from_least : (IsRide : _) (query : Query) (doc : StopsDoc) (journey : Option Journey) →
    ((j : Journey) → journey ≡ Some j → IsJourney IsRide query doc j) → IsLeastArrival IsRide query doc (best_of journey) → IsAnswer IsRide query doc (answer_of journey)
answer_from_least IsRide query doc None is least = least
answer_from_least IsRide query doc (Some journey) is least = record { is_journey = is journey refl; is_earliest = least.1 }

best_chain_is_chain : (query : Query) (doc : StopsDoc) (list : List Connection) (journey : Option Journey) (j : Journey) → journey ≡ Some j → IsBestChain query doc list journey → IsChain query doc list j
best_chain_is_chain query doc list None j e is = absurd (cc)
best_chain_is_chain query doc list (Some journey) j e is = let same : journey ≡ j = cc in subst (IsChain query doc list) same is.is_journey

module _ (live : List Run) (list : List Connection) (first : CutPage) (rest : List CutPage) (query : Query) (doc : StopsDoc) (table : Timetable live list) (pages : ArePagesOf list first rest) (forward : NoneArrivesEarly list) where
  -- the least arrival of chains is that of journeys
  pub least_of_journeys : (best : Option ℕ) → IsListBest query doc list best → IsLeastArrival (IsRideAt live) query doc best
  least_of_journeys best least =
      least_over (IsLegOf (in_time query list)) (IsRideAt live) query doc best (λ j. chain_is_journey live list query doc j table) (λ j. journey_is_chain live list query doc j table) least

  pub least_of_chains : (best : Option ℕ) → IsLeastArrival (IsRideAt live) query doc best → IsListBest query doc list best
  least_of_chains best least =
      least_over (IsRideAt live) (IsLegOf (in_time query list)) query doc best (λ j. journey_is_chain live list query doc j table) (λ j. chain_is_journey live list query doc j table) least

  -- the least arrival of what was taken until one is over is that of all connections
  list_best : (taken : List CutPage) (best : Option ℕ) → IsTakenUntilOver query doc (pages_on first rest query) taken → IsListBest query doc (connections_along taken) best → IsListBest query doc list best
  list_best taken best until least =
      elim until.ends [
        | inl nothing ↦
            (let all : pages_on first rest query ≡ taken = until.are ∙ ap (λ l. taken ++ l) nothing ∙ append-nil taken in
            (least_is_there list first rest query doc best pages forward).1
            (subst (λ (l : List CutPage). IsListBest query doc (connections_along l) best) (sym all) least))
        | inr found ↦
            (let over = found.3 in
            let parts : pages_on first rest query ≡ found.0 ++ found.1 ∷ until.left = until.are ∙ ap (λ l. l ++ until.left) found.2 ∙ append_assoc found.0 (found.1 ∷ []) until.left in
            let here : IsListBest query doc (connections_along (found.0 ++ found.1 ∷ [])) best = subst (λ (l : List CutPage). IsListBest query doc (connections_along l) best) found.2 least in
            let same : over.best ≡ best = one_least_arrival query doc (connections_along (found.0 ++ found.1 ∷ [])) over.best best over.is_best here in
            let P : Option ℕ → Type 0 = λ b. IsListBest query doc list b in
            subst P same ((same_best list first rest query doc pages forward found.0 found.1 until.left over.best over.last parts over.is_last over.by_last).0 over.is_best))
      ]

  -- the journey of which a client knows after what it took is the answer
  pub is_answer : (taken : List CutPage) (journey : Option Journey) → IsTakenUntilOver query doc (pages_on first rest query) taken → IsBestChain query doc (connections_along taken) journey →
      IsAnswer (IsRideAt live) query doc (answer_of journey)
  is_answer taken journey until best =
      let least = list_best taken (best_of journey) until (best_chain_is_least query doc (connections_along taken) journey best) in
      answer_from_least (IsRideAt live) query doc journey
      (λ j e.
      let here : IsChain query doc (connections_along taken) j = best_chain_is_chain query doc (connections_along taken) journey j e best in
      let whole : IsChain query doc (connections_on first rest query) j =
      subst (λ (l : List Connection). IsChain query doc l j) (sym (are_taken list first rest query taken until.left pages forward until.are).parts)
      (chain_of_front query doc (connections_along taken) (connections_along until.left) j here) in
      chain_is_journey live list query doc j table ((chains_are_there list first rest query doc j pages forward).1 whole))
      (least_of_journeys (best_of journey) least)

  -- and what it took are the needed pages
  pub are_needed : (taken : List CutPage) (journey : Option Journey) → IsTakenUntilOver query doc (pages_on first rest query) taken → IsBestChain query doc (connections_along taken) journey →
      AreNeeded (IsRideAt live) query doc first rest taken
  are_needed taken journey until best =
      let least = list_best taken (best_of journey) until (best_chain_is_least query doc (connections_along taken) journey best) in
      record {
        best = best_of journey;
        is_best = least_of_journeys (best_of journey) least;
        are = (takes_the_needed list first rest query doc pages forward taken (best_of journey) least until).0;
      }
