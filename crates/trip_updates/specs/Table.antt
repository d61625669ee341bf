-- The fields that are read of each message (GTFS Realtime Reference), by their numbers.
use Rattle.std.specs.Prelude.{ℕ, ◌%◌, ◌^◌, nat_lt, Option, Some, None, is_some, unwrap_or, ◌==◌, if◌then◌else◌}
use Rattle.trip_updates.specs.declared.fault.Part.{Part}
use Rattle.trip_updates.specs.declared.fault.Part.TheVariants as parts
use Rattle.trip_updates.specs.declared.fault.RtFault.{RtFault}
use Rattle.trip_updates.specs.declared.fault.RtFault.TheVariants as faults
use Rattle.trip_updates.specs.Tree.{Tree, last_varint, last_text, last_message}

-- the messages FeedMessage, FeedHeader, FeedEntity, TripUpdate, TripDescriptor, StopTimeUpdate, StopTimeEvent
pub data Message : Type 0 where
  feed_message : Message
  feed_header : Message
  feed_entity : Message
  trip_update : Message
  trip_descriptor : Message
  stop_time_update : Message
  stop_time_event : Message

-- What a field is read as: not at all, as a varint, as a text, or as a message. A message is there at most once, or is one of
-- several.
pub data Kind : Type 0 where
  skipped : Kind
  a_varint : Kind
  a_text : Kind
  one : (part : Part) (message : Message) → Kind
  many : (message : Message) → Kind

-- what the field with this number is read as in this message
abbrev pub kind : Message → ℕ → Kind
kind feed_message number =
    -- header, entity
    if number == 1 then one parts.Header feed_header else (if number == 2 then many feed_entity else skipped)
kind feed_header number =
    -- gtfs_realtime_version, incrementality, timestamp
    if number == 1 then a_text else (if number == 2 then a_varint else (if number == 3 then a_varint else skipped))
kind feed_entity number =
    -- id, is_deleted, trip_update
    if number == 1 then a_text else (if number == 2 then a_varint else (if number == 3 then one parts.TripUpdate trip_update else skipped))
kind trip_update number =
    -- trip, stop_time_update
    if number == 1 then one parts.Trip trip_descriptor else (if number == 2 then many stop_time_update else skipped)
kind trip_descriptor number =
    -- trip_id, start_time, start_date, schedule_relationship
    if number == 1 then a_text else (if number == 2 then a_text else (if number == 3 then a_text else (if number == 4 then a_varint else skipped)))
kind stop_time_update number =
    -- stop_sequence, arrival, departure, stop_id, schedule_relationship
    if number == 1 then a_varint else (if number == 2 then one parts.Arrival stop_time_event else (if number == 3 then one parts.Departure stop_time_event else (if number == 4 then a_text else (if number == 5 then a_varint else skipped))))
kind stop_time_event number =
    -- delay, time
    if number == 1 then a_varint else (if number == 2 then a_varint else skipped)

-- enumerations and sequences are the low 32 bits
abbrev pub low_32 : ℕ → ℕ
low_32 n = n % 2 ^ 32

-- FeedHeader.timestamp has to be a moment, from 1970 on and before 9999-12-30
abbrev pub lacks_moment : Option ℕ → Option RtFault
lacks_moment None = Some faults.NoMoment
lacks_moment (Some n) = if nat_lt n 253_402_128_000 then None else Some faults.NoMoment

-- what a message lacks at its end, the first thing of several
abbrev pub lacks : Message → Tree → Option RtFault
lacks feed_message tree = if is_some (last_message 1 tree) then None else Some (faults.Missing parts.Header)
lacks feed_header tree = if is_some (last_text 1 tree) then lacks_moment (last_varint 3 tree) else Some (faults.Missing parts.Version)
lacks feed_entity tree = if is_some (last_text 1 tree) then None else Some (faults.Missing parts.Id)
lacks trip_update tree = if is_some (last_message 1 tree) then None else Some (faults.Missing parts.Trip)
lacks trip_descriptor tree = None
lacks stop_time_update tree = None
lacks stop_time_event tree = None
