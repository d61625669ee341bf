-- What the parts of serving result in: a text that is put into the sink, the opening, and all of it.
use Rattle.std.specs.Prelude.{◌≡◌, ◌⊎◌, ℕ, Bool, true, false, List, Result, Ok, Err}
use Rattle.lc_io.specs.Door.{GoesOn}
use Rattle.lc_io.specs.declared.door.DoorFail.{DoorFail}
use Rattle.lc_io.specs.Counts.{Rose}
use Rattle.lc_io.specs.Sink.{SinkSeen}
use Rattle.lc_io.specs.declared.sink.SinkFail.{SinkFail}
use Rattle.lc_io.specs.declared.sink.SinkFail.TheVariants as sinks
use Rattle.cli_serve.specs.Lines.{served_line}
use Rattle.cli_serve.specs.Serve.{Asked, IsEndedByDoor, IsEndedByMemory, IsEndedBySink, IsNotAnnounced, IsNotOpened, IsServedWhole, Outside, opening_of}
use Rattle.cli_serve.specs.Stop.{stop_of_door}
use Rattle.cli_serve.specs.Recorded.{opened_at}
use Rattle.cli_serve.specs.Written.{Wrote, WroteFront}
use Rattle.cli_serve.specs.declared.stop.Stop.{Stop}
use Rattle.cli_serve.specs.declared.stop.Stop.TheVariants.{Door, Sink, NoMemory}
use Rattle.cli_serve.specs.declared.tally.Tally.{Tally}

-- the text was written, or a front of it where the sink failed or memory ran out
abbrev pub Puts : List ℕ → SinkSeen → SinkSeen → Result (Unit {0}) SinkFail → Type 0
Puts text before after (Ok done) = Wrote before after text
Puts text before after (Err sinks.Failed) = Rose before.faults after.faults × WroteFront before after text
Puts text before after (Err sinks.NoMemory) = WroteFront before after text

-- the line at the end of these counts
abbrev pub line_for : Tally → List ℕ
line_for tally = served_line tally.connections tally.requests tally.faults

-- the door listens at the port and no client was taken; the opening was written
pub record IsAnnounced (asked : Asked) (before after : Outside) : Type 0 where
  pub recorded : GoesOn (λ b a. a ≡ opened_at asked.port b) before.door.recorded after.door.recorded
  pub listens : after.door.listens ≡ true
  pub wrote : Wrote before.sink after.sink (opening_of asked)

-- the door listens and the opening was written, or why not
abbrev pub Announces : Asked → Outside → Outside → Result (Unit {0}) Stop → Type 0
Announces asked before after (Ok done) = IsAnnounced asked before after
Announces asked before after (Err Door) = Rose before.door.faults after.door.faults × IsNotOpened before after
Announces asked before after (Err Sink) = Rose before.sink.faults after.sink.faults × IsNotAnnounced asked before after
Announces asked before after (Err NoMemory) = IsNotOpened before after ⊎ IsNotAnnounced asked before after

-- the line at the end was written, or a front of it
abbrev pub PutsLine : Tally → SinkSeen → SinkSeen → Result (Unit {0}) Stop → Type 0
PutsLine tally before after (Ok done) = Wrote before after (line_for tally)
PutsLine tally before after (Err Door) = ⊥
PutsLine tally before after (Err Sink) = Rose before.faults after.faults × WroteFront before after (line_for tally)
PutsLine tally before after (Err NoMemory) = WroteFront before after (line_for tally)

-- nothing was written, since serving stopped
pub record IsLeft (stop : Stop) (before after : SinkSeen) (result : Result (Unit {0}) Stop) : Type 0 where
  pub stopped : result ≡ Err stop
  pub sink : after ≡ before

-- the line at the end is written only where memory ran out on no visit
abbrev pub ClosesKept : Bool → Tally → SinkSeen → SinkSeen → Result (Unit {0}) Stop → Type 0
ClosesKept true tally before after result = IsLeft NoMemory before after result
ClosesKept false tally before after result = PutsLine tally before after result

-- how serving is closed after what was taken
abbrev pub Closes : Result Tally DoorFail → SinkSeen → SinkSeen → Result (Unit {0}) Stop → Type 0
Closes (Ok tally) before after result = ClosesKept tally.lost tally before after result
Closes (Err fail) before after result = IsLeft (stop_of_door fail) before after result

-- what serving results in, where the counts are those of the door and of the sink
abbrev pub StopsTo : Asked → Outside → Outside → Result (Unit {0}) Stop → Type 0
StopsTo asked before after (Ok done) = IsServedWhole asked before after
StopsTo asked before after (Err Door) = IsEndedByDoor asked before.door.faults after.door.faults before after
StopsTo asked before after (Err Sink) = IsEndedBySink asked before.sink.faults after.sink.faults before after
StopsTo asked before after (Err NoMemory) = IsEndedByMemory asked before after
