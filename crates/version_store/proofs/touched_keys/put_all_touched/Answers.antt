use Rattle.version_store.proofs.LastNewsLemmas.{keys_more}
use Rattle.version_store.proofs.touched_keys.put_all_touched.Goals as goal

pub news-preserved : goal.news-preserved
news-preserved c =
    keys_more c.args.news.now c.news.dated-index c.dated-item.result c.args.keys.now c.news.keys c.put_touched.new.keys c.news-test.true c.dated-item.is c.news.invariant c.in_ok-put_touched.ensures
