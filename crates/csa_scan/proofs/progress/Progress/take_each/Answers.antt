use Rattle.std.proofs.Common.{◌++◌, get_or, take, arith}
use Rattle.std.proofs.lemmas.Option.{slice_get-get_or}
use Rattle.csa_scan.specs.Kept.{kept_of}
use Rattle.csa_scan.proofs.OrderLemmas.{next_at, more_taken, all_taken}
use Rattle.csa_scan.proofs.progress.Progress.take_each.Goals as goal

pub loop-i-preserved : goal.loop-i-preserved
loop-i-preserved c =
    let old = c.loop-i.invariant in
    let query = c.args.query.now in
    let list = c.args.list.now in
    let numbers = c.args.numbers.now in
    let one = c.index-list-i.result in
    let run = get_or numbers c.loop-i.i 0 in
    record {
      same_stops = omega (arith, c.take_one.ensures.same_stops);
      same_runs = omega (arith, c.take_one.ensures.same_runs);
      room = omega (arith, c.take_one.ensures.room, c.take_one.ensures.grows);
      stands = λ runs taken asked near distinct are in_order early s.
          let next = next_at query runs taken list numbers distinct are in_order early c.loop-i.i one (omega arith) c.index-list-i.is run
          (slice_get-get_or numbers c.loop-i.i 0 (omega arith)) in
          more_taken query c.args.doc.now runs (kept_of c.take_one.new.self) taken list c.loop-i.i one (omega arith) c.index-list-i.is
          (c.take_one.ensures.stands runs (taken ++ take c.loop-i.i list) asked near next (old.stands runs taken asked near distinct are in_order early s));
    }

pub returns-clause-stands : goal.returns-clause-stands
returns-clause-stands c =
    λ runs taken asked near distinct are in_order early s.
    all_taken c.args.query.now c.args.doc.now runs (kept_of c.loop-i.self) taken c.args.list.now c.loop-i.i c.loop-i-test.false
    (c.loop-i.invariant.stands runs taken asked near distinct are in_order early s)
