-- Faults of fields as faults of messages.
use Rattle.rt_protobuf.specs.declared.fault.WireFault.{WireFault}
use Rattle.rt_protobuf.specs.declared.fault.WireFault.TheVariants as wires
use Rattle.trip_updates.specs.declared.fault.RtFault.{RtFault}
use Rattle.trip_updates.specs.declared.fault.RtFault.TheVariants as faults

-- a wire fault as a fault of the message at its place
abbrev pub wire : WireFault → RtFault
wire (wires.Cut place) = faults.Cut place
wire (wires.LongVarint place) = faults.LongVarint place
wire (wires.Group place) = faults.Group place
wire (wires.BadField place) = faults.BadField place
