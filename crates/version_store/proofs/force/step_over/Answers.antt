use Rattle.std.proofs.Common.{◌≡◌, ◌∙◌, ◌++◌, List, ap, filter, map, subst, sym}
use Rattle.std.specs.List.{All}
use Rattle.std.proofs.lemmas.Result.{IfOk-weaker}
use Rattle.lc_model.specs.Versions.History.{filled, put_all, with_news}
use Rattle.version_store.specs.IndexLaws.Kept.{has_id}
use Rattle.version_store.specs.Filed.{stays}
use Rattle.version_store.specs.Force.{GoesOver}
use Rattle.version_store.specs.Kept.{entity_said}
use Rattle.version_store.specs.Spots.{IsAtSpot}
use Rattle.version_store.specs.declared.kept.Marked.{Marked}
use Rattle.version_store.proofs.ForceLemmas.{after_over, out_filled}
use Rattle.version_store.proofs.force.step_over.Goals as goal

pub returns : goal.returns
returns c =
    IfOk-weaker c.step_by_ids.result _ _
    (λ step goes before a force there says.
    let admitted = c.args.admitted.now in
    let more = map (filled c.args.date) c.args.entities.now in
    let own = c.in_ok-own.own.items in
    let slice : c.as_slice.result.now ≡ own = c.as_slice.ensures.value in
    let are = out_filled c.args.date c.args.entities.now c.in_ok-ids.ids c.in_ok-ids.ensures in
    let at = subst (All (IsAtSpot admitted)) (sym slice) (c.in_ok-own.ensures.at admitted a there says) in
    let news = subst (λ (v : List Marked). with_news (map entity_said v) ≡ map entity_said v) (sym slice) c.in_ok-own.ensures.news in
    let after : filter (stays (λ id. has_id id more)) before ++ map entity_said c.as_slice.result.now ≡ put_all before more =
    ap (λ (v : List Marked). filter (stays (λ id. has_id id more)) before ++ map entity_said v) slice ∙ after_over before more (map entity_said own) c.in_ok-own.ensures.said in
    subst (GoesOver admitted c.args.force.now step before) after (goes (λ id. has_id id more) before are force at news))
    c.step_by_ids.ensures
