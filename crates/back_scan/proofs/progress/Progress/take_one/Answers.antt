use Rattle.std.proofs.Common.{◌≡◌, ◌⊎◌, List, Option, None, Some, true, length, set, refl, subst, arith}
use Rattle.std.specs.List.{slice_get}
use Rattle.std.proofs.lemmas.List.{length-set}
use Rattle.std.proofs.lemmas.Option.{slice_get_read}
use Rattle.lc_model.specs.Question.{latest_of}
use Rattle.csa_scan.specs.declared.trace.Near.{Near}
use Rattle.csa_scan.proofs.TakingLemmas.{in_time_by}
use Rattle.back_scan.specs.Alights.{CannotAlight, IsFirstAlighting}
use Rattle.back_scan.specs.Departs.{Departs, IsBoardingStop, IsNoBoarding}
use Rattle.back_scan.specs.Kept.{kept_of}
use Rattle.back_scan.specs.declared.trace.Departure.{Departure}
use Rattle.back_scan.proofs.LinkingLemmas.{alighting_in, linked-left}
use Rattle.back_scan.proofs.TakingLemmas.{take_departed, take_off, take_on}
use Rattle.back_scan.proofs.progress.Progress.take_one.Goals as goal

pub returns-in_default-clause-stands : goal.returns-in_default-clause-stands
returns-in_default-clause-stands c =
    let p = c.args.self.now in
    let query = c.args.query.now in
    let doc = c.args.doc.now in
    let one = c.args.connection.now in
    let ends = c.args.walks.now.ends.items in
    let later = c.index-before.result.now in
    let early = in_time_by c.is_late.result one.arr (latest_of query) c.if-is_late.false c.is_late.ensures.1 in
    let at : slice_get p.alightings.items c.args.run ≡ Some later = slice_get_read p.alightings.items (length p.alightings.items) c.args.run later refl c.requires.known c.index-before.ensures in
    let E : List (Option Near) → Type 0 = λ l. (later ≡ None) × (one.alight ≡ true → CannotAlight query doc l c.as_slice-departures.result.now one) in
    let D : List (Option Departure) → Type 0 = λ l. (later ≡ None) × (one.alight ≡ true → CannotAlight query doc ends l one) in
    let on = subst D c.as_slice-departures.ensures.value (subst E c.as_slice-ends.ensures.value c.in_default.ensures) in
    λ runs list asked near before s. take_on query doc ends near.ends runs (kept_of p) one list c.args.run early later at on asked before s

pub invariant_of-self : goal.invariant_of-self
invariant_of-self c =
    let p = c.args.self.now in
    let query = c.args.query.now in
    let doc = c.args.doc.now in
    let one = c.args.connection.now in
    let ends = c.args.walks.now.ends.items in
    let later = c.index-before.result.now in
    let at : slice_get p.alightings.items c.args.run ≡ Some later = slice_get_read p.alightings.items (length p.alightings.items) c.args.run later refl c.requires.known c.index-before.ensures in
    let a = c.in-Some.alighting in
    let E : List (Option Near) → Type 0 = λ l. (later ≡ Some a) ⊎ ((later ≡ None) × (one.alight ≡ true) × IsFirstAlighting query doc l c.as_slice-departures.result.now one a) in
    let D : List (Option Departure) → Type 0 = λ l. (later ≡ Some a) ⊎ ((later ≡ None) × (one.alight ≡ true) × IsFirstAlighting query doc ends l one a) in
    let off = subst D c.as_slice-departures.ensures.value (subst E c.as_slice-ends.ensures.value c.in-Some.ensures) in
    record {
      linked = linked-left p.alightings.items p.departures.items p.best p.linked c.args.run a
          (alighting_in query doc ends p.alightings.items p.departures.items p.best p.linked c.requires.one_each c.args.run later at one a off);
    }

pub returns-in_default-stop-clause-stands : goal.returns-in_default-stop-clause-stands
returns-in_default-stop-clause-stands c =
    let p = c.args.self.now in
    let query = c.args.query.now in
    let doc = c.args.doc.now in
    let one = c.args.connection.now in
    let ends = c.args.walks.now.ends.items in
    let later = c.index-before.result.now in
    let early = in_time_by c.is_late.result one.arr (latest_of query) c.if-is_late.false c.is_late.ensures.1 in
    let at : slice_get p.alightings.items c.args.run ≡ Some later = slice_get_read p.alightings.items (length p.alightings.items) c.args.run later refl c.requires.known c.index-before.ensures in
    let a = c.in-Some.alighting in
    let E : List (Option Near) → Type 0 = λ l. (later ≡ Some a) ⊎ ((later ≡ None) × (one.alight ≡ true) × IsFirstAlighting query doc l c.as_slice-departures.result.now one a) in
    let D : List (Option Departure) → Type 0 = λ l. (later ≡ Some a) ⊎ ((later ≡ None) × (one.alight ≡ true) × IsFirstAlighting query doc ends l one a) in
    let off = subst D c.as_slice-departures.ensures.value (subst E c.as_slice-ends.ensures.value c.in-Some.ensures) in
    let N : List (Option Departure) → Type 0 = λ l. IsNoBoarding doc l one a in
    let none = subst N c.as_slice.ensures.value c.in_default-stop.ensures in
    λ runs list asked near before s. take_off query doc ends near.ends runs (kept_of p) one list c.args.run early later at a off none before s

pub depart-requires-clause-within : goal.depart-requires-clause-within
depart-requires-clause-within c =
    let p = c.args.self.now in
    let query = c.args.query.now in
    let doc = c.args.doc.now in
    let one = c.args.connection.now in
    let ends = c.args.walks.now.ends.items in
    let later = c.index-before.result.now in
    let at : slice_get p.alightings.items c.args.run ≡ Some later = slice_get_read p.alightings.items (length p.alightings.items) c.args.run later refl c.requires.known c.index-before.ensures in
    let a = c.in-Some.alighting in
    let E : List (Option Near) → Type 0 = λ l. (later ≡ Some a) ⊎ ((later ≡ None) × (one.alight ≡ true) × IsFirstAlighting query doc l c.as_slice-departures.result.now one a) in
    let D : List (Option Departure) → Type 0 = λ l. (later ≡ Some a) ⊎ ((later ≡ None) × (one.alight ≡ true) × IsFirstAlighting query doc ends l one a) in
    let off = subst D c.as_slice-departures.ensures.value (subst E c.as_slice-ends.ensures.value c.in-Some.ensures) in
    let value = c.seconds-dep.ensures.value in
    let range = c.seconds-dep.ensures.in_range in
    record {
      run = let l = length-set p.alightings.items c.args.run (Some a) in let k = c.requires.known in omega arith;
      is_moment = omega arith;
      forward = c.in-Some-stop.ensures.forward;
      alighting = alighting_in query doc ends p.alightings.items p.departures.items p.best p.linked c.requires.one_each c.args.run later at one a off;
    }

pub returns-clause-stands : goal.returns-clause-stands
returns-clause-stands c =
    let p = c.args.self.now in
    let query = c.args.query.now in
    let doc = c.args.doc.now in
    let one = c.args.connection.now in
    let ends = c.args.walks.now.ends.items in
    let later = c.index-before.result.now in
    let early = in_time_by c.is_late.result one.arr (latest_of query) c.if-is_late.false c.is_late.ensures.1 in
    let at : slice_get p.alightings.items c.args.run ≡ Some later = slice_get_read p.alightings.items (length p.alightings.items) c.args.run later refl c.requires.known c.index-before.ensures in
    let a = c.in-Some.alighting in
    let E : List (Option Near) → Type 0 = λ l. (later ≡ Some a) ⊎ ((later ≡ None) × (one.alight ≡ true) × IsFirstAlighting query doc l c.as_slice-departures.result.now one a) in
    let D : List (Option Departure) → Type 0 = λ l. (later ≡ Some a) ⊎ ((later ≡ None) × (one.alight ≡ true) × IsFirstAlighting query doc ends l one a) in
    let off = subst D c.as_slice-departures.ensures.value (subst E c.as_slice-ends.ensures.value c.in-Some.ensures) in
    let starts = c.args.walks.now.starts.items in
    let B : List (Option Departure) → Type 0 = λ l. IsBoardingStop doc l one a c.in-Some-stop.stop in
    let boards = subst B c.as_slice.ensures.value c.in-Some-stop.ensures in
    let d : Departure = record { run = c.args.run; seq = one.seq; dep = one.dep; alighting = a } in
    let S : List (Option Near) → Type 0 = λ l. Departs query l c.in-Some-stop.stop d (record (kept_of p) { alightings = set p.alightings.items c.args.run (Some a) }) (kept_of c.depart.new.self) in
    λ runs list asked near before s.
    take_departed query doc starts near.starts ends near.ends runs (kept_of p) (kept_of c.depart.new.self) one list c.args.run early later at a off c.in-Some-stop.stop boards d refl refl refl refl
    (subst S c.as_slice-2.ensures.value c.depart.ensures) before s
