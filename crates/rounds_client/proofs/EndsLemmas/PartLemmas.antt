-- Journeys of the fewest rides over two kinds of ride, of which the one has the best journeys of the other.
use Rattle.std.proofs.Common.{ℕ, ◌≤◌, Option, Some, None, arith}
use Rattle.std.specs.Prelude.{◌↔◌}
use Rattle.lc_model.specs.Journey.{IsBest, IsJourney, IsLeastArrival, arrives_at}
use Rattle.lc_model.specs.declared.doc.StopsDoc.{StopsDoc}
use Rattle.lc_model.specs.declared.journey.Journey.{Journey}
use Rattle.lc_model.specs.declared.query.Query.{Query}
use Rattle.lc_model.specs.declared.ride.Ride.{Ride}
use Rattle.change_rounds.specs.Fewest.{IsFewestAnswer}

module _ (A B : Ride → Type 0) (query : Query) (doc : StopsDoc) (part : (journey : Journey) → IsJourney A query doc journey → IsJourney B query doc journey)
    (best_stays : (journey : Journey) → IsBest B query doc journey → IsJourney A query doc journey) where
  -- where there is a journey of the whole, one of the part arrives no later
  no_later : (best : Option ℕ) → IsLeastArrival B query doc best → (journey : Journey) → IsJourney B query doc journey → (other : Journey) × IsJourney A query doc other × (arrives_at other ≤ arrives_at journey)
  no_later None none journey is = absurd (none journey is)
  no_later (Some arrival) ((other, is_other, arrives), least) journey is =
      let whole : IsBest B query doc other = record { is_journey = is_other; is_earliest = λ third k. let l = least third k in omega arith } in
      let l = least journey is in
      (other, best_stays other whole, omega arith)

  -- a best journey of the part is one of the whole
  best_of_whole : (best : Option ℕ) → IsLeastArrival B query doc best → (journey : Journey) → IsBest A query doc journey → IsBest B query doc journey
  best_of_whole best least journey is = record {
    is_journey = part journey is.is_journey;
    is_earliest = λ other k. let o = no_later best least other k in let l = is.is_earliest o.0 o.1 in let by = o.2 in omega arith;
  }

  -- and the other way round
  best_of_part : (journey : Journey) → IsBest B query doc journey → IsBest A query doc journey
  best_of_part journey is = record {
    is_journey = best_stays journey is;
    is_earliest = λ other k. is.is_earliest other (part other k);
  }

  forth : (best : Option ℕ) → IsLeastArrival B query doc best → (answer : Option Journey) → IsFewestAnswer A query doc answer → IsFewestAnswer B query doc answer
  forth best least None none = λ journey is. let o = no_later best least journey is in none o.0 o.1
  forth best least (Some journey) is = record {
    is_best = best_of_whole best least journey is.is_best;
    has_fewest = λ other k. is.has_fewest other (best_of_part other k);
  }

  back : (best : Option ℕ) → IsLeastArrival B query doc best → (answer : Option Journey) → IsFewestAnswer B query doc answer → IsFewestAnswer A query doc answer
  back best least None none = λ journey is. none journey (part journey is)
  back best least (Some journey) is = record {
    is_best = best_of_part journey is.is_best;
    has_fewest = λ other k. is.has_fewest other (best_of_whole best least other k);
  }

  -- the answers are the same
  pub fewest_of_part : (best : Option ℕ) → IsLeastArrival B query doc best → (answer : Option Journey) → (IsFewestAnswer A query doc answer ↔ IsFewestAnswer B query doc answer)
  fewest_of_part best least answer = (forth best least answer, back best least answer)
