-- How one client is served.
use Rattle.std.specs.Prelude.{◌≡◌, ◌⊎◌, true, false, Option, Some, Result, Ok, Err}
use Rattle.lc_io.specs.Door.{DoorSeen, DoorRecorded, GoesOn, OnCurrent, hung_up}
use Rattle.lc_io.specs.Serving.{Exchanges, NothingToCome}
use Rattle.lc_io.specs.declared.serving.Served.{Served}
use Rattle.lc_io.specs.Counts.{HasCause}
use Rattle.lc_model.specs.declared.memory.NoMemory.{NoMemory}
use Rattle.lc_world.specs.Sides.Side.{Side}
use Rattle.cli_serve.specs.Visit.{IsVisit, Visit}

-- the visit was served, or memory ran out
abbrev pub CameOut : Result Served NoMemory → Visit → Type 0
CameOut (Ok served) visit = (visit.lost ≡ false) × (visit.requests ≡ served.requests) × (visit.failed ≡ served.fault)
CameOut (Err fault) visit = (visit.lost ≡ true) × (visit.requests ≡ 0) × (visit.failed ≡ false)

-- without a fault the bytes of the current connection were read to their end, or the session ended
abbrev pub WasHeard : Visit → Option DoorRecorded → Type 0
WasHeard visit recorded = visit.failed ≡ false → visit.lost ≡ false → NothingToCome recorded ⊎ (visit.ended ≡ true)

-- a visit from a side to the next one on the current connection, which is not over
pub record Answers (visit : Visit) (outcome : Result Served NoMemory) (side next : Side) (before after : DoorSeen) : Type 0 where
  pub visit_is : IsVisit visit.lost side visit next
  pub came_out : CameOut outcome visit
  pub recorded : GoesOn (OnCurrent (Exchanges visit.read visit.sent visit.failed visit.read_failed)) before.recorded after.recorded
  pub heard : WasHeard visit after.recorded
  pub broken : HasCause before.broken after.broken (visit.failed ≡ true)
  pub others : after ≡ record before { recorded = after.recorded; broken = after.broken }

-- the bytes of a visit were exchanged on the current connection, and it was hung up
pub record IsOver (visit : Visit) (before after : DoorRecorded) : Type 0 where
  pub at_end : DoorRecorded
  pub exchanged : OnCurrent (Exchanges visit.read visit.sent visit.failed visit.read_failed) before at_end
  pub heard : WasHeard visit (Some at_end)
  pub over : after ≡ hung_up at_end

-- a visit from a side to the next one
pub record Visits (visit : Visit) (outcome : Result Served NoMemory) (side next : Side) (before after : DoorSeen) : Type 0 where
  pub visit_is : IsVisit visit.lost side visit next
  pub came_out : CameOut outcome visit
  pub recorded : GoesOn (IsOver visit) before.recorded after.recorded
  pub broken : HasCause before.broken after.broken (visit.failed ≡ true)
  pub others : after ≡ record before { connected = false; recorded = after.recorded; broken = after.broken }
