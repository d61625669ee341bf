-- The runs that hold by some news, in any order. In order they are the live runs by these news.
use Rattle.std.specs.Prelude.{◌≡◌, ◌≢◌, ◌⊎◌, ◌↔◌, List}
use Rattle.std.specs.List.{All, AllPairs, Contains}
use Rattle.std.specs.List.Sorted.{IsPermutation}
use Rattle.std.specs.Ordering.{on}
use Rattle.lc_model.specs.Call.{InSequence}
use Rattle.lc_model.specs.Connection.{AreConnectionsOf}
use Rattle.lc_model.specs.Order.{AreApart}
use Rattle.lc_model.specs.Run.{InKeyOrder}
use Rattle.lc_model.specs.RunKey.{key_cmp}
use Rattle.lc_model.specs.declared.connection.Connection.{Connection}
use Rattle.lc_model.specs.declared.run.Run.{Run}
use Rattle.lc_model.specs.declared.stop.Stop.{Stop}
use Rattle.lc_model.specs.Versions.Added.{IsFurtherRun}
use Rattle.lc_model.specs.Versions.News.{TripSaid}
use Rattle.lc_model.specs.Versions.Timetable.{AreLiveRuns, IsLiveRun}

-- no item is twice in the list
abbrev pub NoneTwice : {X : Type 0} → List X → Type 0
NoneTwice list = AllPairs (λ x y. x ≢ y) list

-- no two of the runs have one key
abbrev pub KeysApart : List Run → Type 0
KeysApart runs = AreApart (on (λ (r : Run). r.key) key_cmp) runs

-- by the news the run is one of the timetable with its live calls, or a further one
abbrev pub IsRunBy : List Run → List Stop → List TripSaid → Run → Type 0
IsRunBy runs stops list run = IsLiveRun runs list run ⊎ IsFurtherRun runs stops list run

-- these are exactly the runs by the news, in any order
abbrev pub AreRunsBy : List Run → List Stop → List TripSaid → List Run → Type 0
AreRunsBy runs stops list held = (run : Run) → Contains held run ↔ IsRunBy runs stops list run

-- these are the runs by the news, each of them once
pub record HoldBy (runs : List Run) (stops : List Stop) (list : List TripSaid) (held : List Run) : Type 0 where
  pub apart : KeysApart held
  pub exactly : AreRunsBy runs stops list held

-- live runs are runs that hold
abbrev pub LiveRunsHold : Type 0
LiveRunsHold = (runs : List Run) (stops : List Stop) (list : List TripSaid) (live : List Run) → AreLiveRuns runs stops list live → HoldBy runs stops list live

-- runs by the news, once they are in the order of their keys, are the live runs
abbrev pub OrderedAreLive : Type 0
OrderedAreLive =
    (runs : List Run) (stops : List Stop) (list : List TripSaid) (held ordered : List Run) → AreRunsBy runs stops list held → InKeyOrder ordered
    → ((run : Run) → Contains ordered run ↔ Contains held run) → AreLiveRuns runs stops list ordered

-- runs that hold are the live runs in some order
abbrev pub HeldAreLive : Type 0
HeldAreLive =
    (runs : List Run) (stops : List Stop) (list : List TripSaid) (held live : List Run) → HoldBy runs stops list held → AreLiveRuns runs stops list live
    → IsPermutation held live

-- runs that hold have the connections of the live runs
abbrev pub SameConnections : Type 0
SameConnections =
    (runs : List Run) (stops : List Stop) (list : List TripSaid) (held live : List Run) (all : List Connection) → All (λ (r : Run). InSequence r.calls) runs
    → HoldBy runs stops list held → AreLiveRuns runs stops list live → (AreConnectionsOf held all ↔ AreConnectionsOf live all)

-- by the news a key has one run at most
abbrev pub OneRunOfKey : Type 0
OneRunOfKey =
    (runs : List Run) (stops : List Stop) (list : List TripSaid) (a b : Run) → InKeyOrder runs → IsRunBy runs stops list a → IsRunBy runs stops list b
    → a.key ≡ b.key → a ≡ b
