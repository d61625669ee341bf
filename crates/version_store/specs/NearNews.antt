-- The news of some trips, before a message and after it.
use Rattle.std.specs.Prelude.{◌≡◌, ℕ, List, ◌++◌, filter, map}
use Rattle.std.specs.Borrow.{Bor}
use Rattle.std.specs.BTreeSet.{BTreeSet}
use Rattle.lc_model.specs.Versions.News.{EntitySaid}
use Rattle.version_store.specs.IndexLaws.Kept.{news_in}
use Rattle.version_store.specs.Filed.{is_by}
use Rattle.version_store.specs.Kept.{news_said}
use Rattle.version_store.specs.Trips.{AreOfTrips}
use Rattle.version_store.specs.declared.filed.By.TheVariants.{Trip}
use Rattle.version_store.specs.declared.near.NearNews.{NearNews}

-- the news of the entities of a trip are added, both before and after
pub record PushesNear (trip : List ℕ) (before after : List EntitySaid) (was is_now : NearNews) : Type 0 where
  pub of_before : map news_said is_now.old.items ≡ map news_said was.old.items ++ news_in (filter (is_by Trip trip) before)
  pub of_after : map news_said is_now.new.items ≡ map news_said was.new.items ++ news_in (filter (is_by Trip trip) after)

-- at each key of a trip of the set both lists are alike to all news
pub record AreNear (trips : BTreeSet (Bor (List ℕ))) (before after : List EntitySaid) (near : NearNews) : Type 0 where
  pub of_before : AreOfTrips trips (map news_said near.old.items) (news_in before)
  pub of_after : AreOfTrips trips (map news_said near.new.items) (news_in after)
