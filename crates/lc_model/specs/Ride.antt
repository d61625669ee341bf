-- Rides of runs.
use Rattle.std.specs.Prelude.{◌≡◌, ℕ, suc, ◌≤◌, List, Some, true}
use Rattle.std.specs.List.{Any, slice_get}
use Rattle.lc_model.specs.declared.call.Call.{Call}
use Rattle.lc_model.specs.declared.key.RunKey.{RunKey}
use Rattle.lc_model.specs.declared.ride.Ride.{Ride}
use Rattle.lc_model.specs.declared.run.Run.{Run}

-- The ride boards at one call of the run and alights at a later one. The call `last` is right before the one of
-- alighting.
pub record IsRideOn (key : RunKey) (calls : List Call) (ride : Ride) : Type 0 where
  pub boards_at : ℕ
  pub last_at : ℕ
  pub in_order : boards_at ≤ last_at
  pub boards : Call
  pub last : Call
  pub alights : Call
  pub is_boards : slice_get calls boards_at ≡ Some boards
  pub is_last : slice_get calls last_at ≡ Some last
  pub is_alights : slice_get calls (suc last_at) ≡ Some alights
  pub may_board : boards.board ≡ true
  pub may_alight : alights.alight ≡ true
  pub is_ride : ride ≡ record {
    key = key;
    first_seq = boards.seq;
    last_seq = last.seq;
    board = boards.stop;
    dep = boards.dep;
    alight = alights.stop;
    arr = alights.arr;
  }

-- the ride is one on these runs, whose calls are the live ones
abbrev pub IsRideAt : List Run → Ride → Type 0
IsRideAt runs ride = Any (λ (r : Run). IsRideOn r.key r.calls ride) runs
