use Rattle.std.proofs.Common.{◌≡◌, ◌++◌, map, take}
use Rattle.version_store.specs.IndexLaws.Kept.{news_in}
use Rattle.version_store.specs.Kept.{entity_said, news_said}
use Rattle.version_store.proofs.spots.push_all_news.Given as goal

abbrev pub invariant-marks : goal.invariant-marks
invariant-marks l = map news_said l.news.items ≡ map news_said l.initial.news.items ++ news_in (map entity_said (take l.marked-index l.marks))
