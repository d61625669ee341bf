-- The values of which clauses say that they exist are one each, and the calls that news give go forward.
use Rattle.std.specs.Prelude.{◌≡◌, ◌<◌, pos, List, [], Option}
use Rattle.std.specs.List.{All}
use Rattle.lc_model.specs.Call.{GoesForward, InSequence}
use Rattle.lc_model.specs.Run.{InKeyOrder}
use Rattle.lc_model.specs.declared.call.Call.{Call}
use Rattle.lc_model.specs.declared.moment.TheConstants.{MOMENTS_END}
use Rattle.lc_model.specs.declared.run.Run.{Run}
use Rattle.lc_model.specs.declared.stop.Stop.{Stop}
use Rattle.lc_model.specs.Versions.Added.{added_calls}
use Rattle.lc_model.specs.Versions.Live.{live_calls_of}
use Rattle.lc_model.specs.Versions.News.{StopSaid, TripSaid}
use Rattle.lc_model.specs.Versions.Timetable.{AreLiveRuns}
use Rattle.live_calls.specs.AddedRun.{IsAdded}

-- a timetable has one list of live runs by its news
abbrev pub OneListOfLiveRuns : Type 0
OneListOfLiveRuns =
    (runs : List Run) (stops : List Stop) (list : List TripSaid) (a b : List Run) → AreLiveRuns runs stops list a → AreLiveRuns runs stops list b
    → a ≡ b

-- the news of an added trip make one run, or none
abbrev pub OneAddedRun : Type 0
OneAddedRun = (stops : List Stop) (news : TripSaid) (a b : Option Run) → IsAdded stops news a → IsAdded stops news b → a ≡ b

-- live calls go forward, whether the timetable does or not, and so do those of added trips
pub record CallsGoForward : Type 0 where
  pub live : (calls : List Call) (news : Option TripSaid) → InSequence calls → GoesForward (live_calls_of calls news)
  pub added : (stops : List Stop) (news : List StopSaid) → GoesForward (added_calls stops news)

-- a call as a timetable has it: its moments are in range, and it is not late
pub record IsOnTime (call : Call) : Type 0 where
  pub arr : call.arr < MOMENTS_END
  pub dep : call.dep < MOMENTS_END
  pub arr_delay : call.arr_delay ≡ pos 0
  pub dep_delay : call.dep_delay ≡ pos 0

-- the run goes forward, and none of its calls is late
pub record RunsOnTime (run : Run) : Type 0 where
  pub forward : GoesForward run.calls
  pub on_time : All IsOnTime run.calls

-- without news the live runs of a timetable are its runs
abbrev pub LiveWithoutNews : Type 0
LiveWithoutNews = (runs : List Run) (stops : List Stop) (live : List Run) → InKeyOrder runs → All RunsOnTime runs → AreLiveRuns runs stops [] live → live ≡ runs

-- and its runs are the live ones
abbrev pub RunsAreLive : Type 0
RunsAreLive = (runs : List Run) (stops : List Stop) → InKeyOrder runs → All RunsOnTime runs → AreLiveRuns runs stops [] runs
