use Rattle.std.proofs.Common.{List, map, subst, sym}
use Rattle.std.proofs.lemmas.Result.{on_ok_weaker}
use Rattle.version_store.specs.IndexLaws.Kept.{news_in}
use Rattle.version_store.specs.Differing.{DifferBy}
use Rattle.version_store.specs.Force.{IsForceAlike}
use Rattle.version_store.specs.Kept.{entity_said}
use Rattle.version_store.specs.declared.force.Force.{Force}
use Rattle.version_store.specs.declared.kept.Marked.{Marked}
use Rattle.version_store.proofs.ForceLemmas.{force_alike, patch_alike}
use Rattle.version_store.proofs.indexed.turn_over.Goals as goal

pub returns-clause-ok : goal.returns-clause-ok
returns-clause-ok c =
    let new : Force = record { ids = c.make_room.new.filed; trips = c.make_room-2.new.filed } in
    let alike : IsForceAlike c.args.force.now new = record { ids = c.in_ok-make_room.ensures.alike; trips = c.in_ok-make_room-2.ensures.alike } in
    on_ok_weaker c.turn.result
    (λ turned before after force goes.
    let new_force = force_alike c.args.admitted.now c.args.force.now new before alike force in
    let new_patch = patch_alike c.args.admitted.now c.args.force.now new c.args.step.now.patch after alike goes.patch in
    turned before after new_force.by_trip new_patch.by_trip
    (subst (λ (v : List Marked). DifferBy (news_in (map entity_said v)) (news_in before) (news_in after)) (sym c.as_slice.ensures.value) goes.differ))
    c.turn.ensures.ok
