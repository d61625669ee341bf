use Rattle.std.proofs.Common.{List, length, map}
use Rattle.version_store.specs.IndexLaws.Kept.{news_in}
use Rattle.lc_model.specs.Versions.News.{EntitySaid}
use Rattle.version_store.specs.Filed.{HasBy, spots_at, spots_over}
use Rattle.version_store.specs.Kept.{news_said}
use Rattle.version_store.specs.declared.filed.By.TheVariants.{Trip}
use Rattle.version_store.proofs.TripsLemmas.{IsSoFar}
use Rattle.version_store.proofs.near.near_news.Given as goal

abbrev pub invariant-trips : goal.invariant-trips
invariant-trips l =
    (before after : List EntitySaid) → HasBy Trip l.admitted (spots_at l.filed.before.now) before → HasBy Trip l.admitted (spots_over l.filed.first.now l.filed.rest.now) after
    → IsSoFar l.fn.trips l.trips (map news_said l.near.old.items) (news_in before) × IsSoFar l.fn.trips l.trips (map news_said l.near.new.items) (news_in after)

abbrev pub decreases-trips : goal.decreases-trips
decreases-trips l = length l.trips.keys
