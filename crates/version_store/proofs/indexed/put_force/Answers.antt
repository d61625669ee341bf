use Rattle.version_store.specs.declared.force.Force.{Force}
use Rattle.version_store.proofs.ForceLemmas.{patch_put}
use Rattle.version_store.proofs.indexed.put_force.Goals as goal

pub returns : goal.returns
returns c = λ room admitted entities patch.
    let new : Force = record { ids = c.put_patch.new.filed; trips = c.put_patch-2.new.filed } in
    patch_put admitted c.args.force.now new c.args.patch entities (c.put_patch.ensures room.ids) (c.put_patch-2.ensures room.trips) patch
