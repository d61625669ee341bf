use Rattle.std.proofs.Common.{Err, inr, refl, subst, sym}
use Rattle.lc_io.specs.declared.folder.FolderFail.TheVariants.{Absent, NoMemory}
use Rattle.cli_replay.specs.Inputs.Inputs.{EndsUpdate, IsRefusedFor}
use Rattle.cli_replay.proofs.InputsLemmas.InputsLemmas.{asks_for, fails_at}
use Rattle.cli_replay.proofs.inputs.inputs.read_inputs.Goals as goal

pub returns-in-Err-Absent-clause-refused : goal.returns-in-Err-Absent-clause-refused
returns-in-Err-Absent-clause-refused g c =
    let asks = asks_for c.args.scope.now c.args.update _ _ _ c.in-Ok.made c.in-Ok.ensures.ends c.in-Ok.ensures.counts Absent
    (subst (λ f. EndsUpdate c.args.update (g.F.Folder.seen c.load.new.folder) (g.F.Folder.seen c.read_update.new.folder) (Err f)) c.in-Err-Absent.field-0-is c.in-Err-Absent.ensures.ends) in
    record { asks = asks; row_is = refl }

pub returns-in-Err-Failed-clause-refused : goal.returns-in-Err-Failed-clause-refused
returns-in-Err-Failed-clause-refused g c =
    fails_at c.args.scope.now c.args.update _ _ _ c.in-Ok.made c.in-Ok.ensures.ends c.in-Ok.ensures.counts c.faults-before.result c.faults-after.result c.faults-before.ensures c.faults-after.ensures
    (subst (λ f. EndsUpdate c.args.update (g.F.Folder.seen c.load.new.folder) (g.F.Folder.seen c.read_update.new.folder) (Err f)) c.in-Err-Failed.field-0-is c.in-Err-Failed.ensures.ends)

pub returns-in-Ok-clause-refused : goal.returns-in-Ok-clause-refused
returns-in-Ok-clause-refused g c =
    let asks = asks_for c.args.scope.now c.args.update _ _ _ c.in-Ok.made c.in-Ok.ensures.ends c.in-Ok.ensures.counts NoMemory
    (subst (λ f. EndsUpdate c.args.update (g.F.Folder.seen c.load.new.folder) (g.F.Folder.seen c.read_update.new.folder) (Err f)) c.in-Err-NoMemory.field-0-is c.in-Err-NoMemory.ensures.ends) in
    subst (IsRefusedFor c.args.scope.now c.args.update (g.F.Folder.seen c.args.folder.now) (g.F.Folder.seen c.read_update.new.folder)) (sym c.from.ensures) (inr (Err NoMemory, asks))
