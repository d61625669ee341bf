use Rattle.version_store.proofs.SpotsLemmas.{news_more}
use Rattle.version_store.proofs.spots.push_all_news.Goals as goal

pub marks-preserved : goal.marks-preserved
marks-preserved c = news_more c.args.marks.now c.marks.marked-index c.marked-item.result _ _ _ c.marks-test.true c.marked-item.is c.marks.invariant c.in_ok-push_news.ensures
