-- One connection taken: late, of a run that stays unboarded, of a boarded run, or with a new arrival.
use Rattle.std.proofs.Common.{◌≡◌, ℕ, ◌<◌, ◌≤◌, ◌⊎◌, List, [], ◌∷◌, ◌++◌, Option, Some, None, Bool, true, false, cond, set, sym, ◌∙◌, ap, subst, inl, inr, arith}
use Rattle.std.specs.Prelude.{nat_le}
use Rattle.std.specs.List.{slice_get}
use Rattle.std.proofs.lemmas.Bool.Decides.{nat_tests}
use Rattle.std.proofs.lemmas.List.Elements.{filter-append}
use Rattle.lc_model.specs.Leg.{in_time}
use Rattle.lc_model.specs.Question.{latest_of}
use Rattle.lc_model.specs.Stop.{HasStop}
use Rattle.lc_model.specs.declared.connection.Connection.{Connection}
use Rattle.lc_model.specs.declared.doc.StopsDoc.{StopsDoc}
use Rattle.lc_model.specs.declared.key.RunKey.{RunKey}
use Rattle.lc_model.specs.declared.query.Query.{Query}
use Rattle.csa_scan.specs.Boards.{CannotBoard, GetsOn, IsFirstBoarding}
use Rattle.csa_scan.specs.Kept.{Kept}
use Rattle.csa_scan.specs.Near.{AreNear}
use Rattle.csa_scan.specs.Next.{IsNext}
use Rattle.csa_scan.specs.Reach.{IsReachedBy}
use Rattle.csa_scan.specs.Stands.{IsAsked, Follows, Stands}
use Rattle.csa_scan.specs.Takes.{Arrives, IsArrivalOf, IsReachedAlready}
use Rattle.csa_scan.specs.declared.trace.Arrival.{Arrival}
use Rattle.csa_scan.specs.declared.side.Side.TheVariants.{Before, After}
use Rattle.csa_scan.specs.declared.trace.Boarding.{Boarding}
use Rattle.csa_scan.specs.declared.trace.Near.{Near}
use Rattle.csa_scan.proofs.ArrivingLemmas.{follows-arrived, complete-arrived, leg_end}
use Rattle.csa_scan.proofs.ChangesLemmas.{place_from_HasStop}
use Rattle.csa_scan.proofs.ListPlacesLemmas.{push_cases}
use Rattle.csa_scan.proofs.SoughtLemmas.{below}
use Rattle.std.proofs.lemmas.Bool.{false≢true}
use Rattle.csa_scan.proofs.StepsLemmas.{gets_on, follows-boarded, stands-passed, complete-boarded}

-- a connection that is not late is taken
pub in_time-taken : (query : Query) (list : List Connection) (c : Connection) → c.arr ≤ latest_of query → in_time query (list ++ c ∷ []) ≡ in_time query list ++ c ∷ []
in_time-taken query list c early =
    let yes : nat_le c.arr (latest_of query) ≡ true = grind (arith, nat_tests) in
    filter-append (λ (x : Connection). nat_le x.arr (latest_of query)) list (c ∷ [])
    ∙ ap (λ t. in_time query list ++ cond t (c ∷ []) []) yes

pub take_off : (query : Query) (doc : StopsDoc) (starts : List (Option Near)) → AreNear Before doc.stops doc.changes query.from starts → (runs : List RunKey) (kept : Kept) (list : List Connection) (run : ℕ) (c : Connection) → c.arr ≤ latest_of query →
    (before : Option Boarding) → slice_get kept.boardings run ≡ Some before → (before ≡ None) × (c.board ≡ true → CannotBoard query doc starts kept.ready c) →
    IsAsked query doc → IsNext runs (in_time query list) run c → Stands query doc runs kept (in_time query list) → Stands query doc runs kept (in_time query (list ++ c ∷ []))
take_off query doc starts near runs kept list run c early before e off asked next s =
    let P : List Connection → Type 0 = λ l. Stands query doc runs kept l in
    subst P (sym (in_time-taken query list c early))
    (stands-passed query doc asked starts near runs kept (in_time query list) s run c next (record { not_boarded = e ∙ ap Some off.0; cannot = off.1 }))

-- how the run is boarded, by what was there before
on_by : (query : Query) (doc : StopsDoc) (starts : List (Option Near)) (kept : Kept) (run : ℕ) (c : Connection) (before : Option Boarding) → slice_get kept.boardings run ≡ Some before →
    (b : Boarding) → (before ≡ Some b) ⊎ ((before ≡ None) × (c.board ≡ true) × IsFirstBoarding query doc starts kept.ready c b) → GetsOn query doc starts kept run c b
on_by query doc starts kept run c before e b (inl was) = inl (e ∙ ap Some was)
on_by query doc starts kept run c before e b (inr now) = inr (e ∙ ap Some now.0, now.1, now.2)

-- where the stop was reached already, it was reached by an arrival
by_arrival : (query : Query) (doc : StopsDoc) (runs : List RunKey) (kept : Kept) (list : List Connection) → Follows query doc runs kept list → (c : Connection) →
    IsReachedAlready doc kept.reached c → HasStop doc.stops c.arr_stop → IsReachedBy doc.stops kept.arrivals c.arr_stop c.arr
by_arrival query doc runs kept list f c already known =
    let p = place_from_HasStop doc.stops c.arr_stop known in
    let b = already p.0 p.1 p.2 in
    let r = f.reached p.0 b.0 b.1 in
    let t = r.in_time in let u = b.2 in
    record { place = r.place; arrival = r.arrival; is_arrival = r.is_arrival; at = r.at ∙ p.2; in_time = omega arith }

pub take_on : (query : Query) (doc : StopsDoc) (starts : List (Option Near)) → AreNear Before doc.stops doc.changes query.from starts → (runs : List RunKey) (kept : Kept) (list : List Connection) (run : ℕ) (c : Connection) → c.arr ≤ latest_of query →
    (before : Option Boarding) → slice_get kept.boardings run ≡ Some before →
    (b : Boarding) → (before ≡ Some b) ⊎ ((before ≡ None) × (c.board ≡ true) × IsFirstBoarding query doc starts kept.ready c b) →
    (c.alight ≡ true → IsReachedAlready doc kept.reached c) →
    IsNext runs (in_time query list) run c → Stands query doc runs kept (in_time query list) →
    Stands query doc runs (record kept { boardings = set kept.boardings run (Some b) }) (in_time query (list ++ c ∷ []))
take_on query doc starts near runs kept list run c early before e b on already next s =
    let new = record kept { boardings = set kept.boardings run (Some b) } in
    let P : List Connection → Type 0 = λ l. Stands query doc runs new l in
    subst P (sym (in_time-taken query list c early)) (record {
      follows = follows-boarded query doc starts near runs kept (in_time query list) s.follows run c next b (on_by query doc starts kept run c before e b on);
      complete = complete-boarded query doc kept.arrivals (in_time query list) s.complete c
          (λ may known. by_arrival query doc runs kept (in_time query list) s.follows c (already may) known);
    })

-- no connection of the longer list departs after the new arrival
early_enough : (runs : List RunKey) (list : List Connection) (run : ℕ) (c : Connection) → IsNext runs list run c → (place : ℕ) (x : Connection) → slice_get (list ++ c ∷ []) place ≡ Some x → x.dep ≤ c.arr
early_enough runs list run c next place x e = let f = next.forward in elim (push_cases list c place x e) [
  | inl was ↦ let b = next.behind place x was in omega arith
  | inr now ↦ let d = ap (λ (y : Connection). y.dep) now.1 in omega arith
]

pub take_arrived : (query : Query) (doc : StopsDoc) (starts : List (Option Near)) → AreNear Before doc.stops doc.changes query.from starts → (ends : List (Option Near)) → AreNear After doc.stops doc.changes query.to ends → (runs : List RunKey) (kept new : Kept) (list : List Connection) (run : ℕ) (c : Connection) → c.arr ≤ latest_of query →
    (before : Option Boarding) → slice_get kept.boardings run ≡ Some before →
    (b : Boarding) → (before ≡ Some b) ⊎ ((before ≡ None) × (c.board ≡ true) × IsFirstBoarding query doc starts kept.ready c b) →
    (a : Arrival) → IsArrivalOf doc c run b a → Arrives query doc ends a (record kept { boardings = set kept.boardings run (Some b) }) new →
    IsNext runs (in_time query list) run c → Stands query doc runs kept (in_time query list) →
    Stands query doc runs new (in_time query (list ++ c ∷ []))
take_arrived query doc starts near ends far runs kept new list run c early before e b on a is arrives next s =
    let old = in_time query list in
    let mid = record kept { boardings = set kept.boardings run (Some b) } in
    let gets = on_by query doc starts kept run c before e b on in
    let boards = gets_on query doc starts near runs kept old s.follows run c next b gets in
    let by = early_enough runs old run c next in
    let K : ℕ → Type 0 = λ k. slice_get runs k ≡ Some c.key in
    let end = leg_end query doc runs kept.arrivals old c b boards.1 is.may_alight a (subst K (sym is.by_run) next.is_run) is.boarding is.last_seq is.stop is.arr in
    let arr = is.arr in
    let by_arr = λ (place : ℕ) (x : Connection) (f : slice_get (old ++ c ∷ []) place ≡ Some x). let M : ℕ → Type 0 = λ t. x.dep ≤ t in subst M (sym arr) (by place x f) in
    let P : List Connection → Type 0 = λ l. Stands query doc runs new l in
    let Q : List Arrival → Type 0 = λ l. Rattle.csa_scan.specs.Stands.IsComplete query doc l (old ++ c ∷ []) in
    subst P (sym (in_time-taken query list c early)) (record {
      follows = follows-arrived query doc ends far arrives.ready.in_order runs mid new (old ++ c ∷ []) (follows-boarded query doc starts near runs kept old s.follows run c next b gets) a is.within end by_arr arrives;
      complete = subst Q (sym arrives.arrivals) (complete-arrived query doc kept.arrivals old s.complete c by a is.stop is.arr);
    })

-- what is not late is in time
pub in_time_by : (late : Bool) (arr latest : ℕ) → late ≡ false → (latest < arr → late ≡ true) → arr ≤ latest
in_time_by late arr latest e h = elim (below latest arr) [ inl l ↦ absurd (false≢true (sym e ∙ h l)) | inr m ↦ m ]
