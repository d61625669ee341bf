-- Doors in memory of which some calls fail.
use Rattle.std.specs.Prelude.{ℕ, List}
use Rattle.std.specs.List.{Contains}
use Rattle.lc_io.specs.Counts.{one_more}
use Rattle.lc_io.specs.MemWires.{MemWiresState}

-- The connections, the numbers of the calls that fail, and how many calls there were. How many failed: of `listen` and `next`, and of
-- `read` and `write`.
pub record MemDoorState : Type 0 where
  pub wires : MemWiresState
  pub fails : List ℕ
  pub calls : ℕ
  pub faults : ℕ
  pub broken : ℕ

-- the next call is one of those that fail
abbrev pub FailsNext : MemDoorState → Type 0
FailsNext door = Contains door.fails (one_more door.calls)
