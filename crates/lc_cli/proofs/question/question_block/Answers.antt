use Rattle.std.proofs.Common.{subst}
use Rattle.cli_replay.specs.Inputs.Inputs.{ReadsInputs}
use Rattle.lc_world.proofs.GoneOnLemmas.{no_passes}
use Rattle.timetable.specs.declared.scope.Scope.{Scope}
use Rattle.lc_cli.specs.Scope.{scope_of}
use Rattle.lc_cli.proofs.CommandLemmas.{ended_printed, ended_refused, ended_unasked}
use Rattle.lc_cli.proofs.question.question_block.Goals as goal

pub returns-in-Ok-clause-block : goal.returns-in-Ok-clause-block
returns-in-Ok-clause-block g c =
    let old = g.F.Folder.seen c.args.folder.now in
    let new = g.F.Folder.seen c.read_inputs.new.folder in
    let read = subst (λ (scope : Scope). ReadsInputs scope c.args.published.update old new c.in-Ok.field-0.made c.in-Ok.field-0.file) c.scope_of-scope.ensures.scope c.in-Ok.ensures.read in
    ended_printed c.args.published c.args.asking old new (g.L.Link.seen c.args.link) (g.L.Link.seen c.ask_publisher-ended.result.1) c.in-Ok.field-0.made c.in-Ok.field-0.file read
    c.ask_publisher-ended.result.0 c.ended_block.result c.ended_block.ensures.block c.ask_publisher-ended.ensures.asked

pub returns-in-Ok-clause-refused : goal.returns-in-Ok-clause-refused
returns-in-Ok-clause-refused g c =
    let old = g.F.Folder.seen c.args.folder.now in
    let new = g.F.Folder.seen c.read_inputs.new.folder in
    let read = subst (λ (scope : Scope). ReadsInputs scope c.args.published.update old new c.in-Ok.field-0.made c.in-Ok.field-0.file) c.scope_of-scope.ensures.scope c.in-Ok.ensures.read in
    ended_refused (scope_of c.args.published.window) c.args.published.update old new c.in-Ok.field-0.made c.in-Ok.field-0.file read c.ended_block.result c.ended_block.ensures.refused

pub returns-in-Ok-clause-refusal_leaves_link : goal.returns-in-Ok-clause-refusal_leaves_link
returns-in-Ok-clause-refusal_leaves_link g c =
    ended_unasked c.args.link c.ask_publisher-ended.result.1 c.ask_publisher-ended.result.0 c.ended_block.result c.ended_block.ensures.unasked c.ask_publisher-ended.ensures.unasked

pub returns-in-Err-clause-left : goal.returns-in-Err-clause-left
returns-in-Err-clause-left g c = no_passes (g.L.Link.seen c.args.link)
