use Rattle.std.proofs.Common.{refl, subst}
use Rattle.cli_replay.proofs.InputsLemmas.InputsLemmas.{message_refused}
use Rattle.cli_replay.specs.Inputs.Inputs.{ReadsInputs}
use Rattle.timetable.specs.declared.scope.Scope.{Scope}
use Rattle.lc_cli.proofs.serve.server.Goals as goal

pub returns-in-Ok-clause-refused : goal.returns-in-Ok-clause-refused
returns-in-Ok-clause-refused g c =
    let old = g.F.Folder.seen c.args.folder.now in
    let new = g.F.Folder.seen c.read_inputs.new.folder in
    let read = subst (λ (scope : Scope). ReadsInputs scope c.args.serve.published.update old new c.in-Ok.field-0.made c.in-Ok.field-0.file) c.scope_of-scope.ensures.scope c.in-Ok.ensures.read in
    message_refused _ c.args.serve.published.update old new c.in-Ok.field-0.made c.in-Ok.field-0.file c.message_refusal.result read c.message_refusal.ensures.refusal

pub returns-in-Ok-serving_publisher-clause-server : goal.returns-in-Ok-serving_publisher-clause-server
returns-in-Ok-serving_publisher-clause-server g c =
    let old = g.F.Folder.seen c.args.folder.now in
    let new = g.F.Folder.seen c.read_inputs.new.folder in
    record {
      made = c.in-Ok.field-0.made;
      file = c.in-Ok.field-0.file;
      inputs = subst (λ (scope : Scope). ReadsInputs scope c.args.serve.published.update old new c.in-Ok.field-0.made c.in-Ok.field-0.file) c.scope_of-scope.ensures.scope c.in-Ok.ensures.read;
      publishes = c.in-Ok-serving_publisher.ensures.publishes;
      port_is = refl;
      connections_are = refl;
    }
