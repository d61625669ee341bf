-- Which runs are others by the next list of news, and which stay.
use Rattle.std.specs.Prelude.{◌≡◌, ◌⊎◌, ◌↔◌, List, Bool, true, false, ◌||◌, Some, None}
use Rattle.std.specs.List.{Contains, list_any}
use Rattle.lc_model.specs.Run.{InKeyOrder}
use Rattle.lc_model.specs.declared.key.RunKey.{RunKey}
use Rattle.lc_model.specs.declared.run.Run.{Run}
use Rattle.lc_model.specs.declared.stop.Stop.{Stop}
use Rattle.lc_model.specs.Versions.Added.{has_key, news_of_key}
use Rattle.lc_model.specs.Versions.Naming.{names_run, news_for}
use Rattle.lc_model.specs.Versions.News.{TripSaid}
use Rattle.lc_model.specs.Versions.Timetable.{AreLiveRuns}
use Rattle.version_store.specs.IndexLaws.Held.{AreRunsBy, IsRunBy}

-- the news touch a key: they name the run of the timetable with this key, or have exactly this key
abbrev pub touches : RunKey → TripSaid → Bool
touches key news = names_run key news || has_key key news

-- some of the news touch the key
abbrev pub is_touched : RunKey → List TripSaid → Bool
is_touched key list = list_any (touches key) list

-- news touch only keys of their trip and their date, with their start or without one
pub record IsTouchedKey (key : RunKey) (news : TripSaid) : Type 0 where
  pub trip : key.trip ≡ news.trip
  pub date : news.date ≡ Some key.date
  pub start : (key.start ≡ None) ⊎ (key.start ≡ news.start)

-- each key that news touch is one of these
abbrev pub TouchFewKeys : Type 0
TouchFewKeys = (key : RunKey) (news : TripSaid) → touches key news ≡ true → IsTouchedKey key news

-- the last news of a key are alike in both lists: those that name a run of the timetable, and those of an added trip
pub record HasSameNews (key : RunKey) (old new : List TripSaid) : Type 0 where
  pub named : news_for key old ≡ news_for key new
  pub of_key : news_of_key key old ≡ news_of_key key new

-- a key whose last news are alike in both lists has the same run by both
abbrev pub SameNewsSameRun : Type 0
SameNewsSameRun =
    (runs : List Run) (stops : List Stop) (old new : List TripSaid) (run : Run) → HasSameNews run.key old new
    → (IsRunBy runs stops old run ↔ IsRunBy runs stops new run)

-- a run that neither the old nor the new news touch is the same by both
abbrev pub OthersStay : Type 0
OthersStay =
    (runs : List Run) (stops : List Stop) (old new : List TripSaid) (run : Run) → is_touched run.key old ≡ false → is_touched run.key new ≡ false
    → (IsRunBy runs stops old run ↔ IsRunBy runs stops new run)

-- the runs by the new news: those of before that neither list touches, and of the touched ones those by the new list
abbrev pub IsRunAfter : List Run → List Stop → List TripSaid → List TripSaid → List Run → Run → Type 0
IsRunAfter runs stops old new before run =
    (((is_touched run.key old || is_touched run.key new) ≡ false) × Contains before run)
    ⊎ (((is_touched run.key old || is_touched run.key new) ≡ true) × IsRunBy runs stops new run)

-- live runs after live runs of before: the untouched ones as they were, and the touched ones by the new list
abbrev pub LiveAfterLive : Type 0
LiveAfterLive =
    (runs : List Run) (stops : List Stop) (old new : List TripSaid) (before after : List Run) → AreLiveRuns runs stops old before
    → AreLiveRuns runs stops new after → (run : Run) → Contains after run ↔ IsRunAfter runs stops old new before run

-- no run of the list has the key
abbrev pub NoneHas : List Run → RunKey → Type 0
NoneHas runs key = (run : Run) → Contains runs run → run.key ≡ key → ⊥

-- From the old news to the new these keys end, and these runs begin. Every run by the new news begins or was there by the old. No key ends that
-- still has a run, and each that was there ends or has a run still.
pub record AreChanges (runs : List Run) (stops : List Stop) (old new : List TripSaid) (ended : List RunKey) (begun : List Run) : Type 0 where
  pub begins : (run : Run) → Contains begun run → IsRunBy runs stops new run
  pub all : (run : Run) → IsRunBy runs stops new run → Contains begun run ⊎ (IsRunBy runs stops old run × NoneHas begun run.key)
  pub ends : (run : Run) → Contains ended run.key → IsRunBy runs stops new run → ⊥
  pub gone : (run : Run) → IsRunBy runs stops old run → Contains ended run.key ⊎ ((other : Run) × (other.key ≡ run.key) × IsRunBy runs stops new other)

-- the run was there, and its key neither ends nor has a run that begins
pub record IsLeft (ended : List RunKey) (begun before : List Run) (run : Run) : Type 0 where
  pub was : Contains before run
  pub stays : Contains ended run.key → ⊥
  pub alone : NoneHas begun run.key

-- after the update there are the runs that begin, and those that are left
abbrev pub AreUpdated : List RunKey → List Run → List Run → List Run → Type 0
AreUpdated ended begun before after = (run : Run) → Contains after run ↔ (Contains begun run ⊎ IsLeft ended begun before run)

-- runs by the old news, updated by these changes, are the runs by the new news
abbrev pub UpdateHolds : Type 0
UpdateHolds =
    (runs : List Run) (stops : List Stop) (old new : List TripSaid) (ended : List RunKey) (begun before after : List Run) → InKeyOrder runs
    → AreRunsBy runs stops old before → AreChanges runs stops old new ended begun → AreUpdated ended begun before after → AreRunsBy runs stops new after
