use Rattle.std.proofs.Common.{map}
use Rattle.lc_model.specs.Versions.History.{filled, put_all}
use Rattle.version_store.proofs.ForceLemmas.{patch_alike}
use Rattle.version_store.proofs.indexed.take_differential.Goals as goal

pub returns-clause-ok : goal.returns-clause-ok
returns-clause-ok c = λ before a force there says.
    let goes = c.in_ok-step.ensures before a force there says in
    let after = put_all before (map (filled c.args.date) c.args.entities.now) in
    let patch = patch_alike c.args.admitted.now c.args.force.now c.turn_over.new.force c.in_ok-step.step.patch after c.in_ok-turn_over.ensures.alike goes.patch in
    record {
      turned = c.in_ok-turn_over.ensures.ok before after force goes;
      force = c.put_force.ensures c.in_ok-turn_over.ensures.has c.args.admitted.now after patch;
    }
