use Rattle.std.proofs.Common.{◌+◌, ◌<◌, arith, length, refl, subst, sym}
use Rattle.cli_replay.specs.Inputs.Script.{IsRefusedAt}
use Rattle.cli_replay.proofs.InputsLemmas.ScriptLemmas.{at_place, out_behind, read_more, stops_at}
use Rattle.cli_replay.proofs.inputs.script.read_events.Goals as goal

pub returns-in-Err-push-clause-stops : goal.returns-in-Err-push-clause-stops
returns-in-Err-push-clause-stops g c =
    let inside : c.records.place < length c.as_slice-records.result.now = omega arith in
    let there = at_place c.as_slice-records.result.now c.args.script.now c.records.place c.index-records-place.result inside c.index-records-place.is c.records.invariant.0 in
    stops_at c.args.before c.args.script.now c.records.place (c.records.place + 1) c.index-records-place.result (g.F.Folder.seen c.args.folder.now) (g.F.Folder.seen c.records.folder) (g.F.Folder.seen c.event_of.new.folder)
    c.records.events.items c.from.result there c.records.invariant.1 refl
    (subst (IsRefusedAt c.args.before (c.records.place + 1) c.index-records-place.result (g.F.Folder.seen c.records.folder) (g.F.Folder.seen c.event_of.new.folder)) (sym c.from.ensures)
    (out_behind c.index-records-place.result (g.F.Folder.seen c.records.folder) (g.F.Folder.seen c.event_of.new.folder) c.in-Ok.event c.in-Ok.ensures.event))

pub returns-in-Err-clause-stops : goal.returns-in-Err-clause-stops
returns-in-Err-clause-stops g c =
    let inside : c.records.place < length c.as_slice-records.result.now = omega arith in
    let there = at_place c.as_slice-records.result.now c.args.script.now c.records.place c.index-records-place.result inside c.index-records-place.is c.records.invariant.0 in
    stops_at c.args.before c.args.script.now c.records.place (c.records.place + 1) c.index-records-place.result (g.F.Folder.seen c.args.folder.now) (g.F.Folder.seen c.records.folder) (g.F.Folder.seen c.event_of.new.folder)
    c.records.events.items c.in-Err.refusal there c.records.invariant.1 refl c.in-Err.ensures.refused

pub records-preserved : goal.records-preserved
records-preserved g c =
    let inside : c.records.place < length c.as_slice-records.result.now = omega arith in
    let there = at_place c.as_slice-records.result.now c.args.script.now c.records.place c.index-records-place.result inside c.index-records-place.is c.records.invariant.0 in (
      c.records.invariant.0,
      read_more c.args.script.now c.records.place c.index-records-place.result (g.F.Folder.seen c.args.folder.now) (g.F.Folder.seen c.records.folder) (g.F.Folder.seen c.event_of.new.folder) c.records.events.items
          c.push.new.self.items c.in-Ok.event there c.records.invariant.1 c.in-Ok.ensures.event c.event_of.ensures.kept c.in-Ok-push.ensures.items,
    )
