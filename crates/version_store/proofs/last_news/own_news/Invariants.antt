use Rattle.std.proofs.Common.{map, take}
use Rattle.version_store.specs.Kept.{news_said}
use Rattle.version_store.specs.LastNews.{HasOwn}
use Rattle.version_store.proofs.last_news.own_news.Given as goal

abbrev pub invariant-news : goal.invariant-news
invariant-news l = HasOwn (map news_said (take l.dated-index l.news)) l.own
