-- The timetable of a version: its runs with their live calls.
use Rattle.std.specs.Prelude.{◌≡◌, ◌⊎◌, ◌↔◌, List}
use Rattle.std.specs.List.{Contains}
use Rattle.lc_model.specs.Run.{InKeyOrder}
use Rattle.lc_model.specs.declared.run.Run.{Run}
use Rattle.lc_model.specs.declared.stop.Stop.{Stop}
use Rattle.lc_model.specs.Versions.Added.{IsFurtherRun}
use Rattle.lc_model.specs.Versions.Live.{live_calls_of}
use Rattle.lc_model.specs.Versions.Naming.{news_for}
use Rattle.lc_model.specs.Versions.News.{TripSaid}

-- the run is one of the timetable, with its live calls
pub record IsLiveRun (runs : List Run) (list : List TripSaid) (live : Run) : Type 0 where
  pub run : Run
  pub of_timetable : Contains runs run
  pub same_key : live.key ≡ run.key
  pub calls : live.calls ≡ live_calls_of run.calls (news_for run.key list)

-- These are the runs with their live calls by the news, strictly by their keys. They are those of the timetable and the
-- further ones, and no others.
pub record AreLiveRuns (runs : List Run) (stops : List Stop) (list : List TripSaid) (live : List Run) : Type 0 where
  pub in_order : InKeyOrder live
  pub exactly : (run : Run) → Contains live run ↔ (IsLiveRun runs list run ⊎ IsFurtherRun runs stops list run)
