use Rattle.lc_model.specs.Versions.Naming.{names_run}
use Rattle.version_store.proofs.FurtherLemmas.{named_more}
use Rattle.version_store.proofs.NamedLemmas.{none_named}
use Rattle.version_store.proofs.named.named_news.Goals as goal

pub news-init : goal.news-init
news-init c = none_named c.new-named.result c.new-named.ensures.empty

pub news-preserved : goal.news-preserved
news-preserved c = λ key is.
    named_more (names_run key) c.args.news.now c.news.dated-index c.dated-item.result _ _ c.news-test.true c.dated-item.is (c.in_ok-put_named.ensures key is) (c.news.invariant key is)
