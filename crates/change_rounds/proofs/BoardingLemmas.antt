-- What a round writes down points within the lists.
use Rattle.std.proofs.Common.{◌≡◌, ℕ, ◌≤◌, List, Option, Some, None, length, replicate, sym, ◌∙◌, ap, inl, inr, arith}
use Rattle.std.specs.List.{slice_get}
use Rattle.std.proofs.lemmas.List.{length-replicate}
use Rattle.lc_model.specs.declared.connection.Connection.{Connection}
use Rattle.lc_model.specs.declared.doc.StopsDoc.{StopsDoc}
use Rattle.lc_model.specs.declared.query.Query.{Query}
use Rattle.csa_scan.specs.Linked.{IsBoardingIn, IsLinked}
use Rattle.csa_scan.specs.declared.trace.Arrival.{Arrival}
use Rattle.csa_scan.specs.declared.trace.Boarding.{Boarding}
use Rattle.csa_scan.specs.declared.trace.Goal.{Goal}
use Rattle.csa_scan.specs.declared.trace.Near.{Near}
use Rattle.csa_scan.specs.declared.trace.Ready.{Ready}
use Rattle.csa_scan.proofs.LinkingLemmas.{after_there}
use Rattle.csa_scan.proofs.RoomLemmas.{none_there}
use Rattle.change_rounds.specs.InRound.{PointInto}
use Rattle.change_rounds.proofs.TakesLemmas.{GetsOn}

-- a boarding, before or now, points within the lists
pub boarding_in : (query : Query) (doc : StopsDoc) (starts : List (Option Near)) (boardings : List (Option Boarding)) (ready : List (Option Ready)) (reached : List (Option ℕ)) (arrivals : List Arrival) (best : Option Goal) →
    IsLinked boardings ready reached arrivals best → length ready ≡ length doc.stops → (known : List (Option Ready)) → PointInto (length arrivals) known → (run : ℕ) (before : Option Boarding) → slice_get boardings run ≡ Some before →
    (c : Connection) (b : Boarding) → GetsOn query doc starts known before c b → IsBoardingIn (length ready) (length arrivals) b
boarding_in query doc starts boardings ready reached arrivals best h one_each known points run before e c b (inl was) = h.is_boarding run b (e ∙ ap Some was)
boarding_in query doc starts boardings ready reached arrivals best h one_each known points run before e c b (inr now) = record {
  stop = let l = now.2.within in omega arith;
  after = after_there query starts known (length arrivals) b.stop c.dep points b.after now.2.is_there;
}

-- no run is boarded
pub linked-cleared : (boardings : List (Option Boarding)) (ready : List (Option Ready)) (reached : List (Option ℕ)) (arrivals : List Arrival) (best : Option Goal) →
    IsLinked boardings ready reached arrivals best → (n : ℕ) → length boardings ≤ n → (none : List (Option Boarding)) → none ≡ replicate n None → IsLinked none ready reached arrivals best
linked-cleared boardings ready reached arrivals best h n l none e = record {
  same_stops = h.same_stops;
  is_boarding = λ i x at. absurd (none_there n i x (sym (ap (λ (b : List (Option Boarding)). slice_get b i) e) ∙ at));
  is_ready = h.is_ready;
  is_arrival = λ place a at. let is = h.is_arrival place a at in record {
    stop = is.stop;
    run = let r = is.run in let k = ap length e ∙ length-replicate n None in omega arith;
    boarding = is.boarding;
  };
  is_best = h.is_best;
}
