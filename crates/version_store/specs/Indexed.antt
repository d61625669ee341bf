-- The runs of each version, as the index of a store has them by the numbers of versions.
use Rattle.std.specs.Prelude.{◌≡◌, ℕ, ◌≤◌, List, length, take}
use Rattle.lc_model.specs.Versions.News.{TripSaid}
use Rattle.version_store.specs.IndexLaws.Held.{AreRunsBy}
use Rattle.version_store.specs.IndexLaws.Kept.{entities_after, news_in, version_at}
use Rattle.version_store.specs.Index.Spans.{Indexed, runs_at}
use Rattle.version_store.specs.Dates.{date_in}
use Rattle.version_store.specs.Store.{Stored}

-- the news in force after so many messages
abbrev pub news_after : Stored → ℕ → List TripSaid
news_after store number = news_in (entities_after (date_in store.zone) (take number store.history))

-- the version has this number: the base has number 0, and each message makes the next one
pub record IsNumberOf (store : Stored) (version number : ℕ) : Type 0 where
  pub within : number ≤ length store.history
  pub is : version_at store.base store.history number ≡ version

-- the index has exactly the runs of each version, by its number
pub record AreIndexed (store : Stored) (indexed : Indexed) : Type 0 where
  pub newest : indexed.newest ≡ length store.history
  pub runs : (number : ℕ) → number ≤ length store.history → AreRunsBy store.runs store.stops (news_after store number) (runs_at indexed number)
