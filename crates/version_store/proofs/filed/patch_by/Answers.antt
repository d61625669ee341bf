use Rattle.std.proofs.Common.{map}
use Rattle.version_store.specs.Kept.{entity_said}
use Rattle.version_store.proofs.FiledLemmas.{no_part, patch_has}
use Rattle.version_store.proofs.filed.patch_by.Goals as goal

pub returns : goal.returns
returns c = λ out entities are has at takes.
    let begun = c.in_ok-put_all_staying.ensures in
    let part = begun.part out entities are has (no_part c.args.by c.args.admitted.now out entities c.new-patch.result c.new-patch.ensures.empty) in
    patch_has c.args.by c.args.admitted.now out entities (map entity_said c.args.touched.now) c.args.own.now c.args.base.now c.put_all_staying.new.patch c.push_all.new.patch has at takes begun.has part c.in_ok-push_all.ensures
