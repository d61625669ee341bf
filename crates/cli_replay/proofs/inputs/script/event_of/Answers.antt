use Rattle.std.proofs.Common.{Err, inr, rules, subst, sym}
use Rattle.lc_io.specs.declared.folder.FolderFail.TheVariants.{NoMemory}
use Rattle.cli_replay.specs.Inputs.Script.{IsRefusedAt}
use Rattle.cli_replay.proofs.InputsLemmas.ScriptLemmas.{none_refused}
use Rattle.cli_replay.proofs.inputs.script.event_of.Goals as goal

pub returns-in-Ok-clause-refused : goal.returns-in-Ok-clause-refused
returns-in-Ok-clause-refused g c =
    none_refused c.args.before c.args.row c.args.said.now (g.F.Folder.seen c.args.folder.now) (g.F.Folder.seen c.read.new.self) _ _ c.in-Ok.bytes.items c.message_event.result c.in-Update.is
    c.message_event.ensures.refused (search rules) (search rules)

pub returns-in-Update-clause-refused : goal.returns-in-Update-clause-refused
returns-in-Update-clause-refused g c =
    subst (IsRefusedAt c.args.before c.args.row c.args.said.now (g.F.Folder.seen c.args.folder.now) (g.F.Folder.seen c.read.new.self)) (sym c.from.ensures)
    (inr (_, Err NoMemory, c.in-Update.is, search rules))
