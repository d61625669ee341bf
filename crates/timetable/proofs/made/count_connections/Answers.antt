-- One run more has its pairs of calls more.
use Rattle.std.proofs.Common.{◌+◌, ap, arith, length}
use Rattle.timetable.proofs.MadeLemmas.{no_more, one_more}
use Rattle.timetable.proofs.made.count_connections.Goals as goal

pub overflow_add-count : goal.overflow_add-count
overflow_add-count c =
    let runs = c.args.runs.now in
    let place = c.loop-run.run-index in
    let more = one_more runs place c.run-item.result (omega arith) c.run-item.is in
    let most = no_more runs (place + 1) in
    let calls = ap length c.as_slice.ensures.value in
    omega (arith, more, most, calls, c.loop-run.invariant, c.pairs-count.ensures, c.requires)

pub loop-run-preserved : goal.loop-run-preserved
loop-run-preserved c =
    let runs = c.args.runs.now in
    let place = c.loop-run.run-index in
    let more = one_more runs place c.run-item.result (omega arith) c.run-item.is in
    let calls = ap length c.as_slice.ensures.value in
    omega (arith, more, calls, c.loop-run.invariant, c.pairs-count.ensures)
