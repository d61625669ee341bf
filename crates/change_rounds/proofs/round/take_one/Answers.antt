use Rattle.std.proofs.Common.{◌≡◌, ℕ, List, Option, None, Some, true, length, set, sym, subst, arith}
use Rattle.std.specs.List.{slice_get}
use Rattle.std.proofs.lemmas.List.{length-set}
use Rattle.std.proofs.lemmas.Option.{slice_get_read}
use Rattle.lc_model.specs.Question.{latest_of}
use Rattle.csa_scan.specs.Boards.{CannotBoard}
use Rattle.csa_scan.specs.Kept.{kept_of}
use Rattle.csa_scan.specs.Linked.{IsBoardingIn}
use Rattle.csa_scan.specs.Takes.{Arrives, IsReachedAlready}
use Rattle.csa_scan.specs.declared.trace.Boarding.{Boarding}
use Rattle.csa_scan.specs.declared.trace.Near.{Near}
use Rattle.csa_scan.proofs.LinkingLemmas.{linked-boarded}
use Rattle.csa_scan.proofs.TakingLemmas.{in_time_by}
use Rattle.change_rounds.proofs.BoardingLemmas.{boarding_in}
use Rattle.change_rounds.proofs.TakesLemmas.{GetsOn, take_off, take_on, take_arrived}
use Rattle.change_rounds.proofs.round.take_one.Goals as goal

pub returns-in_default-clause-stands : goal.returns-in_default-clause-stands
returns-in_default-clause-stands c =
    let p = c.args.progress.now in
    let query = c.args.query.now in
    let doc = c.args.doc.now in
    let one = c.args.connection.now in
    let starts = c.args.walks.now.starts.items in
    let before = c.index-before.result.now in
    let early = in_time_by c.is_late.result one.arr (latest_of query) c.if-is_late.false c.is_late.ensures.1 in
    let at : slice_get p.boardings.items c.args.run ≡ Some before = slice_get_read p.boardings.items (length p.boardings.items) c.args.run before (omega arith) c.requires.known c.index-before.ensures in
    let S : List (Option Near) → Type 0 = λ starts. (before ≡ None) × (one.board ≡ true → CannotBoard query doc starts c.args.ready.now one) in
    let off = subst S c.as_slice-starts.ensures.value c.in_default.ensures in
    λ runs behind list asked near distinct is_run ready s. take_off query doc asked starts near.starts runs distinct behind c.args.ready.now ready (kept_of p) list c.args.run one early is_run before at off s

pub invariant_of-progress : goal.invariant_of-progress
invariant_of-progress c =
    let p = c.args.progress.now in
    let one = c.args.connection.now in
    let starts = c.args.walks.now.starts.items in
    let before = c.index-before.result.now in
    let at : slice_get p.boardings.items c.args.run ≡ Some before = slice_get_read p.boardings.items (length p.boardings.items) c.args.run before (omega arith) c.requires.known c.index-before.ensures in
    let S : List (Option Near) → Type 0 = λ l. GetsOn c.args.query.now c.args.doc.now l c.args.ready.now before one c.in-Some.boarding in
    let on = subst S c.as_slice-starts.ensures.value c.in-Some.ensures in
    record {
      linked = linked-boarded p.boardings.items p.ready.items p.reached.items p.arrivals.items p.best p.linked c.args.run c.in-Some.boarding
          (boarding_in c.args.query.now c.args.doc.now starts p.boardings.items p.ready.items p.reached.items p.arrivals.items p.best p.linked c.requires.one_each c.args.ready.now c.requires.points c.args.run before at one c.in-Some.boarding on);
    }

pub returns-in_default-arrival-clause-stands : goal.returns-in_default-arrival-clause-stands
returns-in_default-arrival-clause-stands c =
    let p = c.args.progress.now in
    let query = c.args.query.now in
    let doc = c.args.doc.now in
    let one = c.args.connection.now in
    let starts = c.args.walks.now.starts.items in
    let before = c.index-before.result.now in
    let early = in_time_by c.is_late.result one.arr (latest_of query) c.if-is_late.false c.is_late.ensures.1 in
    let at : slice_get p.boardings.items c.args.run ≡ Some before = slice_get_read p.boardings.items (length p.boardings.items) c.args.run before (omega arith) c.requires.known c.index-before.ensures in
    let S : List (Option Near) → Type 0 = λ l. GetsOn c.args.query.now c.args.doc.now l c.args.ready.now before one c.in-Some.boarding in
    let on = subst S c.as_slice-starts.ensures.value c.in-Some.ensures in
    let T : List (Option ℕ) → Type 0 = λ reached. one.alight ≡ true → IsReachedAlready doc reached one in
    let already = subst T c.as_slice.ensures.value c.in_default-arrival.ensures in
    λ runs behind list asked near distinct is_run ready s. take_on query doc starts near.starts runs behind c.args.ready.now ready (kept_of p) list c.args.run one early is_run before at c.in-Some.boarding on already s

pub arrive-requires-clause-within : goal.arrive-requires-clause-within
arrive-requires-clause-within c =
    let p = c.args.progress.now in
    let one = c.args.connection.now in
    let starts = c.args.walks.now.starts.items in
    let before = c.index-before.result.now in
    let a = c.in-Some-arrival.arrival in
    let is = c.in-Some-arrival.ensures in
    let at : slice_get p.boardings.items c.args.run ≡ Some before = slice_get_read p.boardings.items (length p.boardings.items) c.args.run before (omega arith) c.requires.known c.index-before.ensures in
    let S : List (Option Near) → Type 0 = λ l. GetsOn c.args.query.now c.args.doc.now l c.args.ready.now before one c.in-Some.boarding in
    let on = subst S c.as_slice-starts.ensures.value c.in-Some.ensures in
    let within = boarding_in c.args.query.now c.args.doc.now starts p.boardings.items p.ready.items p.reached.items p.arrivals.items p.best p.linked c.requires.one_each c.args.ready.now c.requires.points c.args.run before at one c.in-Some.boarding on in
    let B : Boarding → Type 0 = λ b. IsBoardingIn (length p.ready.items) (length p.arrivals.items) b in
    record {
      stop = let w = is.within in let o = c.requires.one_each in omega arith;
      run = let l = length-set p.boardings.items c.args.run (Some c.in-Some.boarding) in let r = is.by_run in let k = c.requires.known in omega arith;
      boarding = subst B (sym is.boarding) within;
    }

pub returns-clause-stands : goal.returns-clause-stands
returns-clause-stands c =
    let p = c.args.progress.now in
    let query = c.args.query.now in
    let doc = c.args.doc.now in
    let one = c.args.connection.now in
    let starts = c.args.walks.now.starts.items in
    let before = c.index-before.result.now in
    let early = in_time_by c.is_late.result one.arr (latest_of query) c.if-is_late.false c.is_late.ensures.1 in
    let at : slice_get p.boardings.items c.args.run ≡ Some before = slice_get_read p.boardings.items (length p.boardings.items) c.args.run before (omega arith) c.requires.known c.index-before.ensures in
    let S : List (Option Near) → Type 0 = λ l. GetsOn c.args.query.now c.args.doc.now l c.args.ready.now before one c.in-Some.boarding in
    let on = subst S c.as_slice-starts.ensures.value c.in-Some.ensures in
    let ends = c.args.walks.now.ends.items in
    let E : List (Option Near) → Type 0 = λ l. Arrives query doc l c.in-Some-arrival.arrival (record (kept_of p) { boardings = set p.boardings.items c.args.run (Some c.in-Some.boarding) }) (kept_of c.arrive.new.self) in
    λ runs behind list asked near distinct is_run ready s.
    take_arrived query doc starts near.starts ends near.ends runs behind c.args.ready.now ready (kept_of p) (kept_of c.arrive.new.self) list c.args.run one early is_run before at c.in-Some.boarding on c.in-Some-arrival.arrival c.in-Some-arrival.ensures
    (subst E c.as_slice-2.ensures.value c.arrive.ensures.arrives) s
