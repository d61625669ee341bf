-- Doors of sockets.
use Rattle.std.specs.Prelude.{ℕ, Bool, None}
use Rattle.lc_io.specs.Door.{DoorSeen}

-- whether the door listens, whether it has a current connection, and how often it and its connections have failed
pub record TcpDoorState : Type 0 where
  pub listens : Bool
  pub connected : Bool
  pub faults : ℕ
  pub broken : ℕ

-- a door of sockets records nothing of what comes and goes
abbrev pub seen_of : TcpDoorState → DoorSeen
seen_of door = record { listens = door.listens; connected = door.connected; recorded = None; faults = door.faults; broken = door.broken }
