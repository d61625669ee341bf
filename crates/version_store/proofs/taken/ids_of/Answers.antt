use Rattle.std.proofs.Common.{List, arith, subst, take_all}
use Rattle.version_store.specs.IndexLaws.Kept.{has_id}
use Rattle.lc_model.specs.Versions.News.{EntitySaid}
use Rattle.version_store.specs.Filed.{AreOut}
use Rattle.version_store.proofs.TakenLemmas.{ids_more, no_ids}
use Rattle.version_store.proofs.taken.ids_of.Goals as goal

pub entities-init : goal.entities-init
entities-init c = no_ids c.new-ids.result c.new-ids.ensures.empty

pub entities-preserved : goal.entities-preserved
entities-preserved c = ids_more c.args.entities.now c.entities.entity-index c.entity-item.result c.entities.ids c.put_id.new.ids c.entities-test.true c.entity-item.is c.in_ok-put_id.ensures c.entities.invariant

pub returns : goal.returns
returns c = subst (λ (v : List EntitySaid). AreOut c.entities.ids (λ id. has_id id v)) (take_all c.entities.entity-index c.args.entities.now (omega arith)) c.entities.invariant
