use Rattle.std.proofs.Common.{◌<◌, arith, length}
use Rattle.cli_replay.proofs.InputsLemmas.PlanLemmas.{say_more}
use Rattle.cli_replay.proofs.InputsLemmas.ScriptLemmas.{at_place}
use Rattle.cli_replay.proofs.inputs.plan.events_said.Goals as goal

pub records-preserved : goal.records-preserved
records-preserved c =
    let inside : c.records.place < length c.as_slice-records.result.now = omega arith in
    let there = at_place c.as_slice-records.result.now c.args.script.now c.records.place c.index-records-place.result inside c.index-records-place.is c.records.invariant.0 in
    (c.records.invariant.0, say_more c.args.script.now c.records.place c.index-records-place.result c.records.events.items c.push_said.new.events.items there c.records.invariant.1 c.in_ok-push_said.ensures)
