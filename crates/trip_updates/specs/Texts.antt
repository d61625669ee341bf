-- What a fault is printed as.
use Rattle.std.specs.Prelude.{ℕ, List, ◌++◌, codes}
use Rattle.std.specs.Fmt.{decimal}
use Rattle.trip_updates.specs.declared.fault.Part.{Part}
use Rattle.trip_updates.specs.declared.fault.Part.TheVariants as parts
use Rattle.trip_updates.specs.declared.fault.RtFault.{RtFault}
use Rattle.trip_updates.specs.declared.fault.RtFault.TheVariants as faults

-- the name of a part of a message
abbrev pub part_text : Part → List ℕ
part_text parts.Header = codes "header"
part_text parts.Version = codes "version"
part_text parts.Id = codes "id"
part_text parts.Trip = codes "trip"
part_text parts.TripUpdate = codes "trip_update"
part_text parts.Arrival = codes "arrival"
part_text parts.Departure = codes "departure"

-- a fault in short, with its place or its part
abbrev pub fault_text : RtFault → List ℕ
fault_text (faults.Cut place) = codes "cut " ++ decimal place
fault_text (faults.LongVarint place) = codes "varint " ++ decimal place
fault_text (faults.Group place) = codes "group " ++ decimal place
fault_text (faults.BadField place) = codes "field " ++ decimal place
fault_text (faults.Missing part) = codes "missing " ++ part_text part
fault_text faults.NoMoment = codes "no moment"
fault_text (faults.Repeated part) = codes "repeated " ++ part_text part
fault_text faults.NoMemory = codes "no memory"
