-- What a store stands for: a timetable and the messages that were admitted. It has one version at the base, and one more after
-- each message (RFC 7089).
use Rattle.std.specs.Prelude.{ℕ, List, [], ◌∷◌, map, sum_by}
use Rattle.lc_model.specs.declared.run.Run.{Run}
use Rattle.lc_model.specs.declared.stop.Stop.{Stop}
use Rattle.lc_time.specs.declared.zone.Zone.{Zone}
use Rattle.lc_model.specs.Versions.History.{Entry, moments_of, news_at}
use Rattle.lc_model.specs.Versions.Named.{last_of}
use Rattle.lc_model.specs.Versions.News.{TripSaid}
use Rattle.lc_model.specs.Versions.Timetable.{AreLiveRuns}
use Rattle.lc_model.specs.declared.versions.update.Update.{Update}
use Rattle.version_store.specs.Dates.{date_in}

-- the runs and the stops of the feed, its zone, the moment of the base version, and the messages that were admitted, without cuts
pub record Stored : Type 0 where
  pub runs : List Run
  pub stops : List Stop
  pub zone : Zone
  pub base : ℕ
  pub history : List Entry

-- a message of so many bytes as an entry of a history, without cuts
abbrev pub entry_of : Update → ℕ → Entry
entry_of update bytes = record { update = update; bytes = bytes; cuts = [] }

-- a history without its cuts
abbrev pub without_cuts : List Entry → List Entry
without_cuts history = map (λ (e : Entry). entry_of e.update e.bytes) history

-- the versions: the base, and the moments of the messages
abbrev pub versions_of : Stored → List ℕ
versions_of store = store.base ∷ moments_of store.history

-- the newest version
abbrev pub newest_of : Stored → ℕ
newest_of store = last_of store.base (moments_of store.history)

-- how many bytes the messages have
abbrev pub bytes_of : List Entry → ℕ
bytes_of history = sum_by (λ (e : Entry). e.bytes) history

-- the news of a version
abbrev pub news_of : Stored → ℕ → List TripSaid
news_of store version = news_at (date_in store.zone) store.history version

-- these are the runs of a version with their live calls
abbrev pub AreRunsAt : Stored → ℕ → List Run → Type 0
AreRunsAt store version live = AreLiveRuns store.runs store.stops (news_of store version) live
