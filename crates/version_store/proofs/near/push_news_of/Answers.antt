use Rattle.std.proofs.Common.{◌∙◌, ◌++◌, ap, arith, map}
use Rattle.version_store.specs.IndexLaws.Kept.{news_in}
use Rattle.version_store.specs.Kept.{news_said}
use Rattle.version_store.specs.Spots.{said_in}
use Rattle.version_store.proofs.SpotsLemmas.{found_last, news_found}
use Rattle.version_store.proofs.near.push_news_of.Goals as goal

pub spots-preserved : goal.spots-preserved
spots-preserved c =
    news_found (said_in c.args.admitted.now) c.args.spots.now c.spots.spot-index c.spot-item.result _ _ _ c.spots-test.true c.spot-item.is c.spots.invariant c.in_ok-push_news_at.ensures

pub returns : goal.returns
returns c = λ entities said.
    c.spots.invariant ∙ ap (λ v. map news_said c.args.news.now.items ++ news_in v) (found_last (said_in c.args.admitted.now) c.args.spots.now c.spots.spot-index entities (omega arith) said)
