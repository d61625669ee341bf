use Rattle.std.proofs.Common.{List, map, subst, sym}
use Rattle.std.proofs.lemmas.Result.{on_ok_weaker}
use Rattle.version_store.specs.IndexLaws.Kept.{news_in}
use Rattle.version_store.specs.Differing.{DifferBy}
use Rattle.version_store.specs.Kept.{entity_said}
use Rattle.version_store.specs.declared.kept.Marked.{Marked}
use Rattle.version_store.proofs.ForceLemmas.{trips_alone}
use Rattle.version_store.proofs.indexed.turn_whole.Goals as goal

pub returns-clause-ok : goal.returns-clause-ok
returns-clause-ok c =
    on_ok_weaker c.turn.result
    (λ turned before after force goes.
    turned before after force.by_trip (trips_alone c.args.admitted.now c.args.step.now.patch after goes.patch)
    (subst (λ (v : List Marked). DifferBy (news_in (map entity_said v)) (news_in before) (news_in after)) (sym c.as_slice.ensures.value) goes.differ))
    c.turn.ensures.ok
