-- What follows from the end of serving.
use Rattle.std.proofs.Common.{Result, Ok, Err, arith, subst, sym}
use Rattle.cli_serve.specs.Serve.{DoorNeverFell, ServesTo}
use Rattle.cli_serve.specs.declared.fault.ServeFault.{ServeFault}
use Rattle.cli_serve.specs.declared.fault.ServeFault.TheVariants as faults
use Rattle.lc_io.specs.Door.{DoorSeen}
use Rattle.lc_io.specs.Counts.{Rose}
use Rattle.lc_io.specs.Sink.{SinkSeen}
use Rattle.lc_cli.specs.Clear.{IsAnswered}
use Rattle.lc_cli.specs.Serving.{IsSaidLast, IsServingEnd, asked_of, served_status_of}
use Rattle.lc_cli.specs.declared.server.Server.{Server}
use Rattle.lc_cli.specs.declared.status.Status.{Status}

-- serving that no count of faults hindered ends with its output, or out of memory
pub served_answered : (server : Server) (door_before door_after : DoorSeen) (before after : SinkSeen) (status : Status) → IsServingEnd server door_before door_after before after status
    → (Rose door_before.faults door_after.faults → ⊥) → (Rose before.faults after.faults → ⊥) → IsAnswered status
served_answered server door_before door_after before after status x no_door_fault no_sink_fault =
    subst IsAnswered (sym x.status_is) (by x.result x.serves x.said) where
      by : (result : Result (Unit {0}) ServeFault) → ServesTo (asked_of server) (record { door = door_before; sink = before }) (record { door = door_after; sink = x.between }) result
          → IsSaidLast result x.between after → IsAnswered (served_status_of result)
      by (Ok done) serves said = tt
      by (Err (faults.Door count now)) serves said = absurd (no_door_fault serves.rose)
      by (Err (faults.Sink count now)) serves said = absurd (no_sink_fault (subst (λ (s : SinkSeen). Rose before.faults s.faults) (sym said) serves.rose))
      by (Err faults.NoMemory) serves said = tt

-- a door that is as it was
pub no_door_fell : (door : DoorSeen) → DoorNeverFell door door
no_door_fell door = record { faults = omega arith; broken = omega arith }
