use Rattle.std.proofs.Common.{List, arith, map, subst, take_all}
use Rattle.version_store.specs.Filed.{HasListsBy}
use Rattle.version_store.specs.Kept.{entity_said}
use Rattle.version_store.specs.declared.kept.Marked.{Marked}
use Rattle.version_store.proofs.FiledLemmas.{labels_more, no_labels}
use Rattle.version_store.proofs.filed.put_all_staying.Goals as goal

pub touched-init : goal.touched-init
touched-init c = record { has = no_labels c.args.by c.args.patch.now; part = λ out entities are has part. part }

pub touched-preserved : goal.touched-preserved
touched-preserved c = record {
  has = labels_more c.args.by c.args.touched.now c.touched.marked-index c.marked-item.result c.text_of.result.now c.touched.patch c.put_staying.new.patch c.touched-test.true c.marked-item.is c.text_of.ensures
      c.in_ok-put_staying.ensures.stay c.in_ok-put_staying.ensures.has c.touched.invariant.has;
  part = λ out entities are has part. c.in_ok-put_staying.ensures.part c.args.by out entities are has (c.touched.invariant.part out entities are has part);
}

pub returns-clause-has : goal.returns-clause-has
returns-clause-has c = subst (λ (v : List Marked). HasListsBy c.args.by (map entity_said v) c.touched.patch) (take_all c.touched.marked-index c.args.touched.now (omega arith)) c.touched.invariant.has
