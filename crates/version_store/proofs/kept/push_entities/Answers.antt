use Rattle.std.proofs.Common.{◌≡◌, ◌∙◌, List, [], ap, arith, drop, map, refl, sym}
use Rattle.std.proofs.lemmas.List.{drop_all}
use Rattle.lc_model.specs.Versions.History.{filled}
use Rattle.lc_model.specs.Versions.News.{EntitySaid}
use Rattle.version_store.specs.Kept.{then_all, then_entities}
use Rattle.version_store.proofs.KeptLemmas.{entities_none, marks_more}
use Rattle.version_store.proofs.SpotsLemmas.{stay_pushed}
use Rattle.version_store.proofs.kept.push_entities.Goals as goal

pub entities-preserved : goal.entities-preserved
entities-preserved c = record {
  all = marks_more c.args.replaces (filled c.args.date) c.args.entities.now c.entities.number c.index-entities-number.result _ _ _ _ c.entities-test.true c.index-entities-number.is c.in_ok-push.ensures.items refl refl c.entities.invariant.all;
  at = stay_pushed c.args.message c.args.entities.now c.entities.number c.index-entities-number.result _ _ _ _ c.entities-test.true c.index-entities-number.is c.in_ok-push.ensures.items refl refl refl c.entities.invariant.at;
}

pub returns-clause-all : goal.returns-clause-all
returns-clause-all c =
    let entities = c.args.entities.now in
    let kept = then_all [] c.entities.marks.items in
    let at_end : drop c.entities.number entities ≡ [] = drop_all c.entities.number entities (omega arith) in
    sym (entities_none c.args.replaces kept)
    ∙ sym (ap (λ (v : List EntitySaid). then_entities c.args.replaces kept (map (filled c.args.date) v)) at_end)
    ∙ c.entities.invariant.all
