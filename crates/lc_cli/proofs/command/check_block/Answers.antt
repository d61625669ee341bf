use Rattle.std.proofs.Common.{subst}
use Rattle.timetable.specs.Loading.{Loads}
use Rattle.timetable.specs.declared.scope.Scope.{Scope}
use Rattle.lc_cli.proofs.command.check_block.Goals as goal

pub returns-in-Ok-check_text-clause-block : goal.returns-in-Ok-check_text-clause-block
returns-in-Ok-check_text-clause-block g c =
    let old = g.F.Folder.seen c.args.folder.now in
    let new = g.F.Folder.seen c.load.new.folder in
    record {
      made = c.in-Ok.made;
      loaded = subst (λ (scope : Scope). Loads scope old new c.in-Ok.made) c.scope_of-scope.ensures.scope c.in-Ok.ensures.ends;
      text = c.in-Ok-check_text.ensures;
      no_client = c.new.ensures.items;
    }
