use Rattle.std.proofs.Common.{◌≡◌, ◌∙◌, ◌++◌, Some, ap, map, refl, sym}
use Rattle.std.proofs.lemmas.Result.{on_ok_weaker}
use Rattle.std.specs.Prelude.{option_to_list}
use Rattle.version_store.specs.IndexLaws.Kept.{news_in}
use Rattle.lc_model.specs.Versions.News.{EntitySaid}
use Rattle.version_store.specs.Kept.{entity_said, news_said}
use Rattle.version_store.specs.Spots.{said_in}
use Rattle.version_store.proofs.SpotsLemmas.{one_found}
use Rattle.version_store.proofs.near.push_news_at.Goals as goal

pub returns-in-Some : goal.returns-in-Some
returns-in-Some c =
    let e = entity_said c.in-Some.marked in
    let said : Some e ≡ said_in c.args.admitted.now c.args.spot = c.in-Some.ensures in
    on_ok_weaker c.push_news.result
    (λ pushed. pushed ∙ ap (λ v. map news_said c.args.news.now.items ++ v) (sym (one_found (λ (x : EntitySaid). x.news) e e.news refl) ∙ ap (λ o. news_in (option_to_list o)) said))
    c.push_news.ensures
