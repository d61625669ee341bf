use Rattle.std.proofs.Common.{◌≡◌, ◌++◌, map, take}
use Rattle.std.specs.List.{filter_map}
use Rattle.version_store.specs.IndexLaws.Kept.{news_in}
use Rattle.version_store.specs.Kept.{news_said}
use Rattle.version_store.specs.Spots.{said_in}
use Rattle.version_store.proofs.near.push_news_of.Given as goal

abbrev pub invariant-spots : goal.invariant-spots
invariant-spots l = map news_said l.news.items ≡ map news_said l.initial.news.items ++ news_in (filter_map (said_in l.admitted) (take l.spot-index l.spots))
