-- How a run ends that serves connections.
use Rattle.std.specs.Prelude.{◌≡◌, codes, Result, Ok, Err}
use Rattle.cli_serve.specs.Serve.{Asked, ServesTo}
use Rattle.cli_serve.specs.declared.fault.ServeFault.{ServeFault}
use Rattle.cli_serve.specs.declared.fault.ServeFault.TheVariants as faults
use Rattle.fragmenter.specs.Cutting.{chosen_cuts}
use Rattle.lc_io.specs.Door.{DoorSeen}
use Rattle.lc_io.specs.Sink.{SinkSeen}
use Rattle.publisher.specs.Held.{side_of}
use Rattle.lc_cli.specs.Refusal.{no_memory_line}
use Rattle.cli_serve.specs.Written.{SinkNeverFell}
use Rattle.lc_cli.specs.Writing.{Said}
use Rattle.lc_cli.specs.declared.server.Server.{Server}
use Rattle.lc_cli.specs.declared.status.Status.{Status}
use Rattle.lc_cli.specs.declared.status.Status.TheVariants.{Done, DoorFault, SinkFault, NoMemory}

-- what is asked for: the side of the publisher, the line of its message, the port, and how many connections
abbrev pub asked_of : Server → Asked
asked_of server = record {
  first = side_of chosen_cuts server.publisher;
  opening = server.line.items;
  port = server.port;
  connections = server.connections;
}

-- the status of serving that ended so
abbrev pub served_status_of : Result (Unit {0}) ServeFault → Status
served_status_of (Ok done) = Done
served_status_of (Err (faults.Door before after)) = DoorFault before after
served_status_of (Err (faults.Sink before after)) = SinkFault before after
served_status_of (Err faults.NoMemory) = NoMemory

-- what is said last: a line that says why not all was served, and nothing where all was, or where the sink failed
abbrev pub IsSaidLast : Result (Unit {0}) ServeFault → SinkSeen → SinkSeen → Type 0
IsSaidLast (Ok done) before after = after ≡ before
IsSaidLast (Err (faults.Door count now)) before after = Said before after (codes "error door\n")
IsSaidLast (Err (faults.Sink count now)) before after = after ≡ before
IsSaidLast (Err faults.NoMemory) before after = Said before after no_memory_line

-- Connections were served at the door, which ended so, and then that was said.
pub record IsServingEnd (server : Server) (door_before door_after : DoorSeen) (before after : SinkSeen) (status : Status) : Type 0 where
  pub result : Result (Unit {0}) ServeFault
  pub between : SinkSeen
  pub never_fell : SinkNeverFell before between
  pub serves : ServesTo (asked_of server) (record { door = door_before; sink = before }) (record { door = door_after; sink = between }) result
  pub said : IsSaidLast result between after
  pub status_is : status ≡ served_status_of result
