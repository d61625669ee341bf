use Rattle.std.proofs.Common.{◌∙◌, ◌++◌, ap, filter, map}
use Rattle.std.proofs.lemmas.Result.{on_ok_weaker}
use Rattle.version_store.specs.Filed.{is_by, spots_at}
use Rattle.version_store.specs.Kept.{entity_said}
use Rattle.version_store.specs.Spots.{said_in}
use Rattle.version_store.specs.declared.filed.By.TheVariants.{Id}
use Rattle.version_store.proofs.SpotsLemmas.{found_all}
use Rattle.version_store.proofs.taken.push_entities_of_id.Goals as goal

pub returns : goal.returns
returns c =
    let said_at = said_in c.args.admitted.now in
    on_ok_weaker c.push_all_spots.result
    (λ pushed entities has.
    pushed
    ∙ ap (λ v. map entity_said c.args.gone.now.items ++ v)
    (found_all said_at c.spots_at.result.now (filter (is_by Id c.args.id.now) entities)
    (ap (map said_at) (c.spots_at.ensures ∙ ap (spots_at c.args.filed.now) c.in_ok-label.ensures) ∙ has c.args.id.now)))
    c.push_all_spots.ensures
