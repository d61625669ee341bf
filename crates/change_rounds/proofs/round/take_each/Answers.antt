use Rattle.std.proofs.Common.{get_or, take, arith}
use Rattle.std.proofs.lemmas.Option.{slice_get-get_or}
use Rattle.csa_scan.specs.Kept.{kept_of}
use Rattle.change_rounds.proofs.OrderLemmas.{all_taken, more_taken, run_at}
use Rattle.change_rounds.proofs.round.take_each.Goals as goal

pub loop-i-preserved : goal.loop-i-preserved
loop-i-preserved c =
    let old = c.loop-i.invariant in
    let query = c.args.query.now in
    let doc = c.args.doc.now in
    let list = c.args.list.now in
    let numbers = c.args.numbers.now in
    let one = c.index-list-i.result in
    let run = get_or numbers c.loop-i.i 0 in
    record {
      same_stops = omega (arith, c.take_one.ensures.same_stops);
      same_runs = omega (arith, c.take_one.ensures.same_runs);
      no_fewer = omega (arith, c.take_one.ensures.no_fewer);
      room = omega (arith, c.take_one.ensures.room, c.take_one.ensures.grows);
      stands = λ runs before asked near distinct are ready s.
          let is_run = run_at runs list numbers are c.loop-i.i one (omega arith) c.index-list-i.is run (slice_get-get_or numbers c.loop-i.i 0 (omega arith)) in
          more_taken query doc runs before (kept_of c.take_one.new.progress) list c.loop-i.i one (omega arith) c.index-list-i.is
          (c.take_one.ensures.stands runs before (take c.loop-i.i list) asked near distinct is_run ready (old.stands runs before asked near distinct are ready s));
    }

pub returns-clause-stands : goal.returns-clause-stands
returns-clause-stands c =
    λ runs before asked near distinct are ready s.
    all_taken c.args.query.now c.args.doc.now runs before (kept_of c.loop-i.progress) c.args.list.now c.loop-i.i c.loop-i-test.false
    (c.loop-i.invariant.stands runs before asked near distinct are ready s)
