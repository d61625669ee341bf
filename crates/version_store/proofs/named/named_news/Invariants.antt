use Rattle.std.proofs.Common.{map, take}
use Rattle.version_store.specs.Kept.{news_said}
use Rattle.version_store.specs.Named.{HasNamed}
use Rattle.version_store.proofs.named.named_news.Given as goal

abbrev pub invariant-news : goal.invariant-news
invariant-news l = HasNamed (map news_said (take l.dated-index l.news)) l.named
