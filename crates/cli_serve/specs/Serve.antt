-- What serving results in, by how it ends.
use Rattle.std.specs.Prelude.{◌≡◌, ◌⊎◌, ℕ, ◌<◌, ◌≤◌, true, false, List, ◌++◌, length, Result, Ok, Err}
use Rattle.lc_io.specs.Door.{DoorSeen, GoesOn}
use Rattle.lc_io.specs.Counts.{Rose, RoseBy}
use Rattle.lc_io.specs.Sink.{SinkSeen}
use Rattle.lc_world.specs.Sides.Side.{Side}
use Rattle.cli_serve.specs.Lines.{line_of, listening_line}
use Rattle.cli_serve.specs.Recorded.{AreRecorded, NoneWaits, opened_at}
use Rattle.cli_serve.specs.Visit.{AreVisits, NoneLost, Visit, faults_of}
use Rattle.cli_serve.specs.Written.{Wrote, WroteFront, WroteThenFront}
use Rattle.cli_serve.specs.declared.fault.ServeFault.{ServeFault}
use Rattle.cli_serve.specs.declared.fault.ServeFault.TheVariants.{Door, Sink, NoMemory}

-- What is asked for: the side of the publisher at the start, the bytes to be written first, the port, and the most connections.
pub record Asked : Type 0 where
  pub first : Side
  pub opening : List ℕ
  pub port : ℕ
  pub connections : ℕ

-- what is seen of the door and of the sink
pub record Outside : Type 0 where
  pub door : DoorSeen
  pub sink : SinkSeen

-- the text that is written once the door listens
abbrev pub opening_of : Asked → List ℕ
opening_of asked = asked.opening ++ listening_line asked.port

-- The door listens at the port, and these visits were made, as many as were asked for at most. The last one is over, and a fault of
-- one has raised the count of the door.
pub record WasVisited (asked : Asked) (visits : List Visit) (before after : DoorSeen) : Type 0 where
  pub last : Side
  pub visits_are : AreVisits asked.first visits last
  pub at_most : length visits ≤ asked.connections
  pub recorded : GoesOn (λ b a. AreRecorded visits (opened_at asked.port b) a) before.recorded after.recorded
  pub listens : after.listens ≡ true
  pub nobody : after.connected ≡ false
  pub broken : RoseBy (faults_of visits) before.broken after.broken

-- Memory ran out on no visit. There were as many as were asked for, or no further client waits.
pub record WasServed (asked : Asked) (visits : List Visit) (before after : DoorSeen) : Type 0 where
  pub visited : WasVisited asked visits before after
  pub all : (length visits ≡ asked.connections) ⊎ NoneWaits after.recorded
  pub none_lost : NoneLost visits

-- Ok: all visits were served, and the opening and the line at the end were written whole.
pub record IsServedWhole (asked : Asked) (before after : Outside) : Type 0 where
  pub visits : List Visit
  pub served : WasServed asked visits before.door after.door
  pub wrote : Wrote before.sink after.sink (opening_of asked ++ line_of visits)

-- the door has not begun to listen, and nothing was written
pub record IsNotOpened (before after : Outside) : Type 0 where
  pub recorded : after.door.recorded ≡ before.door.recorded
  pub listens : after.door.listens ≡ before.door.listens
  pub connected : after.door.connected ≡ before.door.connected
  pub sink : after.sink ≡ before.sink

-- the door listens and no client was taken; a front of the opening was written
pub record IsNotAnnounced (asked : Asked) (before after : Outside) : Type 0 where
  pub recorded : GoesOn (λ b a. a ≡ opened_at asked.port b) before.door.recorded after.door.recorded
  pub listens : after.door.listens ≡ true
  pub connected : after.door.connected ≡ before.door.connected
  pub wrote : WroteFront before.sink after.sink (opening_of asked)

-- these visits were made, and nothing was written after the opening
pub record IsStopped (asked : Asked) (visits : List Visit) (before after : Outside) : Type 0 where
  pub visited : WasVisited asked visits before.door after.door
  pub wrote : Wrote before.sink after.sink (opening_of asked)

-- all visits were served, and a front of the line at the end was written
pub record IsNotClosed (asked : Asked) (before after : Outside) : Type 0 where
  pub visits : List Visit
  pub served : WasServed asked visits before.door after.door
  pub wrote : WroteThenFront before.sink after.sink (opening_of asked) (line_of visits)

-- The door failed, which it counted: it did not begin to listen, or it failed where one client more was asked for. Memory had run out on no
-- visit. The fault has its count before and now.
pub record IsEndedByDoor (asked : Asked) (count now : ℕ) (before after : Outside) : Type 0 where
  pub count_is : count ≡ before.door.faults
  pub now_is : now ≡ after.door.faults
  pub rose : Rose before.door.faults after.door.faults
  pub so_far : IsNotOpened before after ⊎ ((visits : List Visit) × (length visits < asked.connections) × NoneLost visits × IsStopped asked visits before after)

-- The sink failed, which it counted, in the opening or in the line at the end. The fault has its count before and now.
pub record IsEndedBySink (asked : Asked) (count now : ℕ) (before after : Outside) : Type 0 where
  pub count_is : count ≡ before.sink.faults
  pub now_is : now ≡ after.sink.faults
  pub rose : Rose before.sink.faults after.sink.faults
  pub so_far : IsNotAnnounced asked before after ⊎ IsNotClosed asked before after

-- Memory ran out: before the door listened, in the opening, on a visit or between two, or in the line at the end.
abbrev pub IsEndedByMemory : Asked → Outside → Outside → Type 0
IsEndedByMemory asked before after =
    IsNotOpened before after ⊎ IsNotAnnounced asked before after ⊎ ((visits : List Visit) × IsStopped asked visits before after) ⊎ IsNotClosed asked before after

-- what serving results in, by its result
abbrev pub ServesTo : Asked → Outside → Outside → Result (Unit {0}) ServeFault → Type 0
ServesTo asked before after (Ok done) = IsServedWhole asked before after
ServesTo asked before after (Err (Door count now)) = IsEndedByDoor asked count now before after
ServesTo asked before after (Err (Sink count now)) = IsEndedBySink asked count now before after
ServesTo asked before after (Err NoMemory) = IsEndedByMemory asked before after

-- neither count of the door has fallen
pub record DoorNeverFell (before after : DoorSeen) : Type 0 where
  pub faults : before.faults ≤ after.faults
  pub broken : before.broken ≤ after.broken
