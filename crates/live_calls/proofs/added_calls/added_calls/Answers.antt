use Rattle.live_calls.proofs.AddedLemmas.{added_more}
use Rattle.live_calls.proofs.added_calls.added_calls.Goals as goal

pub news-preserved : goal.news-preserved
news-preserved c =
    added_more c.args.stops.now c.args.news.now c.news.place c.index-news-place.result _ _ _ _ _ _ c.news-test.true c.index-news-place.is c.in_ok-seq.ensures c.in_ok-before.ensures c.news.invariant
