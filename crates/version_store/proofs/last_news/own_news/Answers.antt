use Rattle.lc_model.specs.Versions.Added.{has_key}
use Rattle.version_store.proofs.FurtherLemmas.{named_more}
use Rattle.version_store.proofs.LastNewsLemmas.{none_own}
use Rattle.version_store.proofs.last_news.own_news.Goals as goal

pub news-init : goal.news-init
news-init c = none_own c.new-own.result c.new-own.ensures.empty

pub news-preserved : goal.news-preserved
news-preserved c = λ key is.
    named_more (has_key key) c.args.news.now c.news.dated-index c.dated-item.result _ _ c.news-test.true c.dated-item.is (c.in_ok-put_own.ensures key is) (c.news.invariant key is)
