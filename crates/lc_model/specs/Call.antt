-- The calls of a run (GTFS Schedule Reference, stop_times.txt).
use Rattle.std.specs.Prelude.{List, ◌<◌, ◌≤◌}
use Rattle.std.specs.List.{All, AllPairs}
use Rattle.lc_model.specs.declared.call.Call.{Call}

-- the sequences of the calls strictly increase
abbrev pub InSequence : List Call → Type 0
InSequence calls = AllPairs (λ (x y : Call). x.seq < y.seq) calls

-- sequences increase, no call departs before it arrives, and none arrives before an earlier one departed
pub record GoesForward (calls : List Call) : Type 0 where
  pub in_sequence : InSequence calls
  pub at_a_stop : All (λ (x : Call). x.arr ≤ x.dep) calls
  pub along : AllPairs (λ (x y : Call). x.dep ≤ y.arr) calls
