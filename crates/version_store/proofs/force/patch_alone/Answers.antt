use Rattle.std.proofs.Common.{[], false, map, refl}
use Rattle.std.proofs.lemmas.Result.{IfOk-weaker}
use Rattle.version_store.specs.Kept.{entity_said}
use Rattle.version_store.proofs.ForceLemmas.{none_in_force, none_out, patch_alone, takes_own}
use Rattle.version_store.proofs.force.patch_alone.Goals as goal

pub returns : goal.returns
returns c =
    let admitted = c.args.admitted.now in
    let own = map entity_said c.args.own.now in
    let empty = c.new-empty.result in
    let ids = c.new-empty.ensures.ids in
    let trips = c.new-empty.ensures.trips in
    IfOk-weaker c.patch_of.result _ _
    (λ patch are at news.
    patch_alone admitted empty patch own ids trips (are (λ id. false) [] (none_out c.new-none.result c.new-none.ensures.empty) (none_in_force admitted empty [] ids trips refl) at news (takes_own own)))
    c.patch_of.ensures
