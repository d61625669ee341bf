-- The realtime messages: what they say, and their bytes.
use Rattle.std.specs.Prelude.{ℕ, zero, suc, ◌+◌, ◌*◌, true, List, [], ◌∷◌, ◌++◌, codes, decimal, pos, Some, None}
use Rattle.lc_time.specs.Date.{date_said}
use Rattle.lc_model.specs.Versions.News.{EntitySaid, TripSaid}
use Rattle.lc_model.specs.declared.versions.event.Relation.TheVariants as relations
use Rattle.lc_model.specs.declared.versions.event.TripKind.TheVariants as kinds
use Rattle.lc_model.specs.declared.versions.update.Update.{Update}
use Rattle.rt_protobuf.specs.Grammar.{WireField, text, varint}
use Rattle.rt_protobuf.specs.Writing.{fields_text}
use Rattle.cli_drill.specs.Draws.{drawn}
use Rattle.cli_drill.specs.Network.{side_of, trip_count}
use Rattle.cli_drill.specs.Rows.{trip_name}
use Rattle.cli_drill.specs.declared.messages.Late.{Late}

-- the news of a trip of 2024-05-01 that is late
abbrev pub news_of : Late → TripSaid
news_of late = record {
  trip = trip_name late.trip;
  date = date_said (codes "20240501");
  start = None;
  kind = kinds.Scheduled;
  stops = record { seq = Some 1; stop = None; relation = relations.Scheduled; arr = None; dep = Some (record { delay = Some (pos late.delay); time = None }) } ∷ [];
}

-- the entities of a message: their ids are numbers, from this one on
abbrev pub entities_from : ℕ → List Late → List EntitySaid
entities_from id [] = []
entities_from id (late ∷ more) = record { id = decimal id; news = Some (news_of late) } ∷ entities_from (suc id) more

-- what a full message of a moment says
abbrev pub update_with : ℕ → List Late → Update
update_with moment all = record { moment = moment; full = true; entities = entities_from 0 all; passed = 0 }

-- FeedHeader: `gtfs_realtime_version`, `incrementality` FULL_DATASET, and `timestamp`
abbrev pub header_fields : ℕ → List WireField
header_fields moment =
    record { number = 1; content = text (codes "2.0") } ∷ record { number = 2; content = varint 0 } ∷ record { number = 3; content = varint moment } ∷ []

-- TripDescriptor: `trip_id` and `start_date`
abbrev pub descriptor_fields : Late → List WireField
descriptor_fields late = record { number = 1; content = text (trip_name late.trip) } ∷ record { number = 3; content = text (codes "20240501") } ∷ []

-- StopTimeEvent: `delay`
abbrev pub event_fields : Late → List WireField
event_fields late = record { number = 1; content = varint late.delay } ∷ []

-- StopTimeUpdate: `stop_sequence` and `departure`
abbrev pub stop_fields : Late → List WireField
stop_fields late = record { number = 1; content = varint 1 } ∷ record { number = 3; content = text (fields_text (event_fields late)) } ∷ []

-- TripUpdate: `trip` and `stop_time_update`
abbrev pub trip_fields : Late → List WireField
trip_fields late = record { number = 1; content = text (fields_text (descriptor_fields late)) } ∷ record { number = 2; content = text (fields_text (stop_fields late)) } ∷ []

-- FeedEntity: `id` and `trip_update`
abbrev pub entity_fields : ℕ → Late → List WireField
entity_fields id late = record { number = 1; content = text (decimal id) } ∷ record { number = 3; content = text (fields_text (trip_fields late)) } ∷ []

-- the `entity`s of a message
abbrev pub entities_fields : ℕ → List Late → List WireField
entities_fields id [] = []
entities_fields id (late ∷ more) = record { number = 2; content = text (fields_text (entity_fields id late)) } ∷ entities_fields (suc id) more

-- FeedMessage: `header` and `entity`s
abbrev pub message_fields : ℕ → List Late → List WireField
message_fields moment all = record { number = 1; content = text (fields_text (header_fields moment)) } ∷ entities_fields 0 all

-- the bytes of a message
abbrev pub message_text : ℕ → List Late → List ℕ
message_text moment all = fields_text (message_fields moment all)

-- ---- the messages of a seed

-- the entity of this number in the message of this number: two draws, of its trip and of up to a quarter of an hour
abbrev pub late_at : ℕ → ℕ → ℕ → Late
late_at seed message entity = record {
  trip = drawn seed (40 * message + 2 * entity) (trip_count (side_of seed));
  delay = drawn seed (40 * message + 2 * entity + 1) 900;
}

-- the first entities of a message, so many
unfoldable pub late_of : ℕ → ℕ → ℕ → List Late
late_of seed message zero = []
late_of seed message (suc count) = late_of seed message count ++ late_at seed message count ∷ []

-- the moment of a message: 2024-05-01T06:10:00Z, and ten minutes more each
abbrev pub moment_of : ℕ → ℕ
moment_of message = 1_714_543_200 + 600 * (message + 1)

-- what the message of this number says, with twenty entities
abbrev pub update_of : ℕ → ℕ → Update
update_of seed message = update_with (moment_of message) (late_of seed message 20)

-- and its bytes
abbrev pub message_of : ℕ → ℕ → List ℕ
message_of seed message = message_text (moment_of message) (late_of seed message 20)
