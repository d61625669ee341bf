-- The connections that a walk over spots gives. A spot is the number of a run and that of one of its calls.
use Rattle.std.specs.Prelude.{◌≡◌, ◌↔◌, ℕ, suc, List, [], ◌∷◌, ◌++◌, map, filter, Bool, true, if◌then◌else◌, Option, Some, None, option_and_then}
use Rattle.std.specs.List.{Contains, slice_get}
use Rattle.std.specs.List.Sorted.{IsPermutation}
use Rattle.lc_model.specs.Connection.{connection_between, connections_of}
use Rattle.lc_model.specs.declared.call.Call.{Call}
use Rattle.lc_model.specs.declared.connection.Connection.{Connection}
use Rattle.lc_model.specs.declared.key.RunKey.{RunKey}
use Rattle.lc_model.specs.declared.run.Run.{Run}
use Rattle.version_store.specs.IndexLaws.Held.{NoneTwice}

-- where a connection departs: the number of its run in a list of runs, and of the call among those of the run
pub record Spot : Type 0 where
  pub run : ℕ
  pub call : ℕ

-- the spots of a run's connections, from the call of this number on: every call has one but the last
abbrev pub spots_from : ℕ → ℕ → List Call → List Spot
spots_from run call [] = []
spots_from run call (last ∷ []) = []
spots_from run call (from ∷ to ∷ rest) = record { run = run; call = call } ∷ spots_from run (suc call) (to ∷ rest)

-- the spots of the connections of runs, of which the first has this number
abbrev pub spots_of : ℕ → List Run → List Spot
spots_of number [] = []
spots_of number (run ∷ rest) = spots_from number 0 run.calls ++ spots_of (suc number) rest

-- of these runs, the first of which has this number, those whose numbers hold
abbrev pub held_from : (ℕ → Bool) → ℕ → List Run → List Run
held_from holds number [] = []
held_from holds number (run ∷ rest) = if holds number then run ∷ held_from holds (suc number) rest else held_from holds (suc number) rest

-- the connection between two calls, if both are there
abbrev pub between_calls : RunKey → Option Call → Option Call → Option Connection
between_calls key None to = None
between_calls key (Some from) None = None
between_calls key (Some from) (Some to) = Some (connection_between key from to)

-- the connection that departs at a spot of these runs, if one does
abbrev pub connection_at : List Run → Spot → Option Connection
connection_at runs spot =
    option_and_then (λ (run : Run). between_calls run.key (slice_get run.calls spot.call) (slice_get run.calls (suc spot.call))) (slice_get runs spot.run)

-- of the runs that hold the list has each spot once; of the others it may have some
pub record HasSpots (runs : List Run) (holds : ℕ → Bool) (spots : List Spot) : Type 0 where
  pub once : NoneTwice spots
  pub exactly : (spot : Spot) → holds spot.run ≡ true → (Contains spots spot ↔ Contains (spots_of 0 runs) spot)

-- these are the connections that depart at the spots of runs that hold, in the order of the spots
abbrev pub AreWalked : List Run → (ℕ → Bool) → List Spot → List Connection → Type 0
AreWalked runs holds spots walked = map Some walked ≡ map (connection_at runs) (filter (λ (s : Spot). holds s.run) spots)

-- the connections that depart at the spots of runs that hold are those of these runs, in some order
abbrev pub WalkedAreConnections : Type 0
WalkedAreConnections =
    (runs : List Run) (holds : ℕ → Bool) (spots : List Spot) (walked : List Connection) → HasSpots runs holds spots → AreWalked runs holds spots walked
    → IsPermutation (connections_of (held_from holds 0 runs)) walked
