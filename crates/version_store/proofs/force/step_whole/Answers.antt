use Rattle.std.proofs.Common.{◌≡◌, ◌∙◌, List, ap, map, subst, sym}
use Rattle.std.specs.List.{All}
use Rattle.std.proofs.lemmas.Result.{IfOk-weaker}
use Rattle.lc_model.specs.Versions.History.{filled, with_news}
use Rattle.version_store.specs.Force.{GoesWhole}
use Rattle.version_store.specs.Kept.{entity_said}
use Rattle.version_store.specs.Spots.{IsAtSpot}
use Rattle.version_store.specs.declared.kept.Marked.{Marked}
use Rattle.version_store.proofs.force.step_whole.Goals as goal

pub returns : goal.returns
returns c =
    IfOk-weaker c.step_by_all.result _ _
    (λ step goes before a force there says.
    let admitted = c.args.admitted.now in
    let own = c.in_ok-own.own.items in
    let slice : c.as_slice.result.now ≡ own = c.as_slice.ensures.value in
    let at = subst (All (IsAtSpot admitted)) (sym slice) (c.in_ok-own.ensures.at admitted a there says) in
    let news = subst (λ (v : List Marked). with_news (map entity_said v) ≡ map entity_said v) (sym slice) c.in_ok-own.ensures.news in
    let after : map entity_said c.as_slice.result.now ≡ with_news (map (filled c.args.date) c.args.entities.now) = ap (map entity_said) slice ∙ c.in_ok-own.ensures.said in
    subst (GoesWhole admitted step before) after (goes before force at news))
    c.step_by_all.ensures
