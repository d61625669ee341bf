-- Why serving stopped.
use Rattle.lc_io.specs.declared.door.DoorFail.{DoorFail}
use Rattle.lc_io.specs.declared.door.DoorFail.TheVariants as doors
use Rattle.lc_io.specs.declared.sink.SinkFail.{SinkFail}
use Rattle.lc_io.specs.declared.sink.SinkFail.TheVariants as sinks
use Rattle.cli_serve.specs.declared.stop.Stop.{Stop}
use Rattle.cli_serve.specs.declared.stop.Stop.TheVariants.{Door, Sink, NoMemory}

-- by a fault of the door
abbrev pub stop_of_door : DoorFail → Stop
stop_of_door doors.Failed = Door
stop_of_door doors.NoMemory = NoMemory

-- by a fault of the sink
abbrev pub stop_of_sink : SinkFail → Stop
stop_of_sink sinks.Failed = Sink
stop_of_sink sinks.NoMemory = NoMemory
