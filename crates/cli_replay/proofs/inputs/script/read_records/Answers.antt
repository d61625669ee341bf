use Rattle.std.proofs.Common.{Err, Ok, rules, subst, sym}
use Rattle.lc_io.specs.declared.folder.FolderFail.TheVariants.{NoMemory}
use Rattle.cli_replay.specs.Inputs.Script.{IsScriptRefused}
use Rattle.cli_replay.proofs.inputs.script.read_records.Goals as goal

pub returns-in-Ok-clause-refused : goal.returns-in-Ok-clause-refused
returns-in-Ok-clause-refused g c =
    subst (IsScriptRefused c.args.updates c.args.name.now (g.F.Folder.seen c.args.folder.now) (g.F.Folder.seen c.read.new.self)) (sym c.from.ensures) (Ok c.in-Ok.bytes.items, search rules)

pub returns-clause-refused : goal.returns-clause-refused
returns-clause-refused g c =
    subst (IsScriptRefused c.args.updates c.args.name.now (g.F.Folder.seen c.args.folder.now) (g.F.Folder.seen c.read.new.self)) (sym c.from-in-Err-NoMemory.ensures) (Err NoMemory, search rules)
