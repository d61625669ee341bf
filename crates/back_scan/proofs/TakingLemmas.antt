-- One connection more before those that were taken, as the code takes it.
use Rattle.std.proofs.Common.{◌≡◌, ◌⊎◌, ℕ, ◌<◌, ◌≤◌, List, ◌∷◌, Option, Some, None, true, false, cond, set, sym, ◌∙◌, ap, subst, inl, inr, arith}
use Rattle.std.specs.Prelude.{nat_le}
use Rattle.std.specs.List.{slice_get}
use Rattle.std.proofs.lemmas.Bool.Decides.{nat_tests}
use Rattle.lc_model.specs.Leg.{in_time}
use Rattle.lc_model.specs.Question.{latest_of}
use Rattle.lc_model.specs.declared.connection.Connection.{Connection}
use Rattle.lc_model.specs.declared.doc.StopsDoc.{StopsDoc}
use Rattle.lc_model.specs.declared.key.RunKey.{RunKey}
use Rattle.lc_model.specs.declared.query.Query.{Query}
use Rattle.csa_scan.specs.Near.{AreNear}
use Rattle.csa_scan.specs.Stands.{IsAsked}
use Rattle.csa_scan.specs.declared.side.Side.TheVariants.{Before, After}
use Rattle.csa_scan.specs.declared.trace.Near.{Near}
use Rattle.back_scan.specs.Alights.{CannotAlight, GetsOff, IsFirstAlighting}
use Rattle.back_scan.specs.Before.{IsBefore}
use Rattle.back_scan.specs.Departs.{Departs, IsBoardingStop, IsNoBoarding}
use Rattle.back_scan.specs.Kept.{Kept}
use Rattle.back_scan.specs.Stands.{IsComplete, Stands}
use Rattle.back_scan.specs.declared.trace.Alighting.{Alighting}
use Rattle.back_scan.specs.declared.trace.Departure.{Departure}
use Rattle.back_scan.proofs.DepartingLemmas.{complete-departed, follows-departed, leg_begin}
use Rattle.back_scan.proofs.KeepingLemmas.{arrives_after, follows-left, forward-taken, gets_off, stands-left, stands-passed}

-- a connection that is late is left out
late-taken : (query : Query) (c : Connection) (list : List Connection) → latest_of query < c.arr → in_time query (c ∷ list) ≡ in_time query list
late-taken query c list late =
    let no : nat_le c.arr (latest_of query) ≡ false = grind (arith, nat_tests) in
    ap (λ t. cond t (c ∷ in_time query list) (in_time query list)) no

pub take_late : (query : Query) (doc : StopsDoc) (runs : List RunKey) (kept : Kept) (c : Connection) (list : List Connection) → latest_of query < c.arr →
    Stands query doc runs kept (in_time query list) → Stands query doc runs kept (in_time query (c ∷ list))
take_late query doc runs kept c list late s =
    let P : List Connection → Type 0 = λ l. Stands query doc runs kept l in
    subst P (sym (late-taken query c list late)) s

-- a connection that is not late is taken
in_time-taken : (query : Query) (c : Connection) (list : List Connection) → c.arr ≤ latest_of query → in_time query (c ∷ list) ≡ c ∷ in_time query list
in_time-taken query c list early =
    let yes : nat_le c.arr (latest_of query) ≡ true = grind (arith, nat_tests) in
    ap (λ t. cond t (c ∷ in_time query list) (in_time query list)) yes

pub take_on : (query : Query) (doc : StopsDoc) (ends : List (Option Near)) → AreNear After doc.stops doc.changes query.to ends → (runs : List RunKey) (kept : Kept) (c : Connection) (list : List Connection) (run : ℕ) → c.arr ≤ latest_of query →
    (later : Option Alighting) → slice_get kept.alightings run ≡ Some later → (later ≡ None) × (c.alight ≡ true → CannotAlight query doc ends kept.departures c) →
    IsAsked query doc → IsBefore runs (in_time query list) run c → Stands query doc runs kept (in_time query list) → Stands query doc runs kept (in_time query (c ∷ list))
take_on query doc ends near runs kept c list run early later e on asked before s =
    let P : List Connection → Type 0 = λ l. Stands query doc runs kept l in
    subst P (sym (in_time-taken query c list early))
    (stands-passed query doc asked ends near runs kept (in_time query list) s run c before (record { not_left = e ∙ ap Some on.0; cannot = on.1 }))

-- how the run is left, by what was there before
off_by : (query : Query) (doc : StopsDoc) (ends : List (Option Near)) (kept : Kept) (run : ℕ) (c : Connection) (later : Option Alighting) → slice_get kept.alightings run ≡ Some later →
    (a : Alighting) → (later ≡ Some a) ⊎ ((later ≡ None) × (c.alight ≡ true) × IsFirstAlighting query doc ends kept.departures c a) → GetsOff query doc ends kept run c a
off_by query doc ends kept run c later e a (inl was) = inl (e ∙ ap Some was)
off_by query doc ends kept run c later e a (inr now) = inr (e ∙ ap Some now.0, now.1, now.2)

pub take_off : (query : Query) (doc : StopsDoc) (ends : List (Option Near)) → AreNear After doc.stops doc.changes query.to ends → (runs : List RunKey) (kept : Kept) (c : Connection) (list : List Connection) (run : ℕ) → c.arr ≤ latest_of query →
    (later : Option Alighting) → slice_get kept.alightings run ≡ Some later →
    (a : Alighting) → (later ≡ Some a) ⊎ ((later ≡ None) × (c.alight ≡ true) × IsFirstAlighting query doc ends kept.departures c a) →
    IsNoBoarding doc kept.departures c a →
    IsBefore runs (in_time query list) run c → Stands query doc runs kept (in_time query list) →
    Stands query doc runs (record kept { alightings = set kept.alightings run (Some a) }) (in_time query (c ∷ list))
take_off query doc ends near runs kept c list run early later e a off none before s =
    let new = record kept { alightings = set kept.alightings run (Some a) } in
    let P : List Connection → Type 0 = λ l. Stands query doc runs new l in
    subst P (sym (in_time-taken query c list early))
    (stands-left query doc ends near runs kept (in_time query list) s run c before a (off_by query doc ends kept run c later e a off) none)

pub take_departed : (query : Query) (doc : StopsDoc) (starts : List (Option Near)) → AreNear Before doc.stops doc.changes query.from starts → (ends : List (Option Near)) → AreNear After doc.stops doc.changes query.to ends →
    (runs : List RunKey) (kept new : Kept) (c : Connection) (list : List Connection) (run : ℕ) → c.arr ≤ latest_of query →
    (later : Option Alighting) → slice_get kept.alightings run ≡ Some later →
    (a : Alighting) → (later ≡ Some a) ⊎ ((later ≡ None) × (c.alight ≡ true) × IsFirstAlighting query doc ends kept.departures c a) →
    (stop : ℕ) → IsBoardingStop doc kept.departures c a stop → (d : Departure) → d.run ≡ run → d.alighting ≡ a → d.seq ≡ c.seq → d.dep ≡ c.dep →
    Departs query starts stop d (record kept { alightings = set kept.alightings run (Some a) }) new →
    IsBefore runs (in_time query list) run c → Stands query doc runs kept (in_time query list) →
    Stands query doc runs new (in_time query (c ∷ list))
take_departed query doc starts near ends far runs kept new c list run early later e a off stop is d by_run alighting seq dep departs before s =
    let old = in_time query list in
    let mid = record kept { alightings = set kept.alightings run (Some a) } in
    let gets = off_by query doc ends kept run c later e a off in
    let leaves = gets_off query doc ends far runs kept old s.follows run c before a gets in
    let late = arrives_after query doc runs kept old s run c before in
    let K : ℕ → Type 0 = λ k. slice_get runs k ≡ Some c.key in
    let begin = leg_begin query doc runs kept.departures c old a leaves.1 is.may_board stop is.is d (subst K (sym by_run) before.is_run) alighting seq dep in
    let late_d = λ (place : ℕ) (x : Connection) (f : slice_get (c ∷ old) place ≡ Some x). let M : ℕ → Type 0 = λ t. t ≤ x.arr in subst M (sym dep) (late place x f) in
    let P : List Connection → Type 0 = λ l. Stands query doc runs new l in
    let Q : List (Option Departure) → Type 0 = λ l. IsComplete query doc l (c ∷ old) in
    subst P (sym (in_time-taken query c list early)) (record {
      follows = follows-departed query doc starts near runs mid new (c ∷ old) (follows-left query doc ends far runs kept old s.follows run c before a gets) stop is.within is.free d begin late_d departs;
      complete = subst Q (sym departs.departures) (complete-departed query doc kept.departures c old s.complete late stop is.free d is.is dep);
      forward = forward-taken query doc runs kept old s run c before;
    })
