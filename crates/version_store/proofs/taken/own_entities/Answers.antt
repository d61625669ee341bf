use Rattle.std.proofs.Common.{◌∙◌, List, [], ap, map, sym, subst, arith}
use Rattle.std.specs.List.{All}
use Rattle.std.proofs.lemmas.List.Elements.{All-contains}
use Rattle.std.proofs.lemmas.Result.{IfOk-weaker}
use Rattle.lc_model.proofs.ListLemmas.{All-from_contains}
use Rattle.lc_model.specs.Versions.History.{filled, with_news}
use Rattle.version_store.specs.Kept.{survivors, then_all, then_entities}
use Rattle.version_store.specs.Spots.{IsAtSpot}
use Rattle.version_store.specs.declared.kept.Marked.{Marked}
use Rattle.version_store.proofs.KeptLemmas.{survivors_are_kept, survivors_have_news}
use Rattle.version_store.proofs.taken.own_entities.Goals as goal

pub returns-clause-said : goal.returns-clause-said
returns-clause-said c =
    IfOk-weaker c.survivors_of.result _ _
    (λ own said.
    said ∙ ap survivors c.as_slice.ensures.value ∙ survivors_are_kept c.push_entities.new.marks.items ∙ c.in_ok-push_entities.ensures.all
    ∙ ap (λ (v : List Marked). then_entities c.args.replaces (then_all [] v) (map (filled c.args.date) c.args.entities.now)) c.in_ok-marks.ensures.items)
    c.survivors_of.ensures.said

pub returns-clause-news : goal.returns-clause-news
returns-clause-news c =
    IfOk-weaker c.survivors_of.result _ _ (λ own said. ap with_news said ∙ survivors_have_news c.as_slice.result.now ∙ sym said) c.survivors_of.ensures.said

pub returns-clause-at : goal.returns-clause-at
returns-clause-at c =
    IfOk-weaker c.survivors_of.result _ _
    (λ own of admitted a there says.
    let none : All (IsAtSpot admitted) c.in_ok-marks.marks.items = subst (All (IsAtSpot admitted)) (sym c.in_ok-marks.ensures.items) (λ k d inside. absurd (omega (arith, inside))) in
    let at : All (IsAtSpot admitted) c.as_slice.result.now = subst (All (IsAtSpot admitted)) (sym c.as_slice.ensures.value) (c.in_ok-push_entities.ensures.at admitted a there says none) in
    All-from_contains (IsAtSpot admitted) own.items (λ m in_own. All-contains (IsAtSpot admitted) c.as_slice.result.now m at (of m in_own)))
    c.survivors_of.ensures.of
