-- What the fields of a message say.
use Rattle.std.specs.Prelude.{ℕ, List, [], ◌∷◌, map, Bool, true, false, not, ◌&&◌, ◌==◌, if◌then◌else◌, Option, Some, None, is_none, option_map, option_and_then, unwrap_or, count_by}
use Rattle.std.specs.Int.{w32, w64, cast_signed}
use Rattle.trip_updates.specs.declared.entity.Entity.{Entity}
use Rattle.trip_updates.specs.declared.trip.TripSaid.{TripSaid}
use Rattle.trip_updates.specs.declared.trip.TripSaid.TheVariants as saids
use Rattle.trip_updates.specs.declared.header.Head.{Head}
use Rattle.lc_model.specs.Versions.News.{EntitySaid, StopSaid, TripSaid as TripNews}
use Rattle.lc_model.specs.declared.versions.event.Event.{Event}
use Rattle.lc_model.specs.declared.versions.event.Relation.{Relation}
use Rattle.lc_model.specs.declared.versions.event.Relation.TheVariants as relations
use Rattle.lc_model.specs.declared.versions.event.TripKind.{TripKind}
use Rattle.lc_model.specs.declared.versions.event.TripKind.TheVariants as kinds
use Rattle.lc_model.specs.declared.versions.update.Update.{Update}
use Rattle.trip_updates.specs.Tree.{Tree, last_varint, last_text, last_message, messages}
use Rattle.trip_updates.specs.Table.{low_32}
use Rattle.lc_time.specs.Clock.{gtfs_time_said}
use Rattle.lc_time.specs.Date.{date_said}

-- StopTimeEvent: `delay` is the low 32 bits as a signed number, `time` the 64 bits as one
abbrev pub event_of : Tree → Event
event_of tree = record {
  delay = option_map (λ n. cast_signed w32 (low_32 n)) (last_varint 1 tree);
  time = option_map (λ n. cast_signed w64 n) (last_varint 2 tree);
}

-- a StopTimeEvent without `delay` and `time` counts as absent
abbrev pub if_any : Event → Option Event
if_any event = if is_none event.delay && is_none event.time then None else Some event

-- StopTimeUpdate.schedule_relationship: SKIPPED is 1, NO_DATA is 2, and all else counts as SCHEDULED
abbrev pub relation_of : ℕ → Relation
relation_of n = if n == 1 then relations.Skipped else (if n == 2 then relations.NoData else relations.Scheduled)

-- StopTimeUpdate: `stop_sequence`, `stop_id`, `schedule_relationship`, `arrival` and `departure`
abbrev pub stop_news_of : Tree → StopSaid
stop_news_of tree = record {
  seq = option_map low_32 (last_varint 1 tree);
  stop = last_text 4 tree;
  relation = relation_of (low_32 (unwrap_or (last_varint 5 tree) 0));
  arr = option_and_then (λ event. if_any (event_of event)) (last_message 2 tree);
  dep = option_and_then (λ event. if_any (event_of event)) (last_message 3 tree);
}

-- A text that may be absent, and counts as absent where it is empty. None where it is there and not read.
abbrev pub if_said : {X : Type 0} → (List ℕ → Option X) → Option (List ℕ) → Option (Option X)
if_said reads None = Some None
if_said reads (Some []) = Some None
if_said reads (Some (b ∷ text)) = option_map (λ x. Some x) (reads (b ∷ text))

-- TripDescriptor.schedule_relationship: SCHEDULED is 0, ADDED is 1, CANCELED is 3, and no other is read
abbrev pub kind_of : ℕ → Option TripKind
kind_of n = if n == 0 then Some kinds.Scheduled else (if n == 1 then Some kinds.Added else (if n == 3 then Some kinds.Canceled else None))

-- what a TripDescriptor and the news of stops say of a trip, or none where the trip update is passed over
abbrev pub trip_news_of : Tree → List StopSaid → Option TripNews
trip_news_of descriptor stops =
    option_and_then (λ trip.
    option_and_then (λ kind.
    option_and_then (λ date.
    option_map (λ start. record { trip = trip; date = date; start = start; kind = kind; stops = stops })
    (if_said gtfs_time_said (last_text 2 descriptor)))
    (if_said date_said (last_text 3 descriptor)))
    (kind_of (low_32 (unwrap_or (last_varint 4 descriptor) 0))))
    (last_text 1 descriptor)

-- TripUpdate: its `trip` and the news of its `stop_time_update`, or none where it is passed over
abbrev pub news_of : Tree → Option TripNews
news_of update = option_and_then (λ descriptor. trip_news_of descriptor (map stop_news_of (messages 2 update))) (last_message 1 update)

-- a trip update is passed over, or it is news
abbrev pub passed_or : Option TripNews → TripSaid
passed_or None = saids.Passed
passed_or (Some news) = saids.News news

-- the news of a trip update that is not passed over
abbrev pub news_said : Option TripSaid → Option TripNews
news_said None = None
news_said (Some saids.Passed) = None
news_said (Some (saids.News news)) = Some news

-- whether there is a trip update that is passed over
abbrev pub is_passed : Option TripSaid → Bool
is_passed None = false
is_passed (Some saids.Passed) = true
is_passed (Some (saids.News news)) = false

-- FeedEntity.is_deleted is there and not 0
abbrev pub is_deleted : Option ℕ → Bool
is_deleted None = false
is_deleted (Some n) = not (n == 0)

-- what the `trip_update` of a FeedEntity says, if it has one
abbrev pub said_of : Tree → Option TripSaid
said_of tree = option_map (λ update. passed_or (news_of update)) (last_message 3 tree)

-- FeedEntity: its `id` with the news of its `trip_update`, whether it is deleted, and whether its trip update is passed over
abbrev pub entity_of : Tree → Entity
entity_of tree = record {
  news = record { id = unwrap_or (last_text 1 tree) []; news = news_said (said_of tree) };
  deleted = is_deleted (last_varint 2 tree);
  passed = is_passed (said_of tree);
}

-- FeedHeader: the moment of its `timestamp`, which is there wherever nothing is lacking. Whether the message is full, as it is
-- unless `incrementality` is DIFFERENTIAL, 1.
abbrev pub head_of : Tree → Head
head_of header = record {
  moment = unwrap_or (last_varint 3 header) 0;
  full = not (low_32 (unwrap_or (last_varint 2 header) 0) == 1);
}

-- whether the entity takes another one out: it is deleted, by a message that is not full
abbrev pub takes_out : Bool → Entity → Bool
takes_out full entity = not full && entity.deleted

-- an entity that takes another one out has no news
abbrev pub stated : Bool → Entity → EntitySaid
stated full entity = if takes_out full entity then record { id = entity.news.id; news = None } else entity.news

-- a trip update that is passed over counts unless its entity takes another one out
abbrev pub counts : Bool → Entity → Bool
counts full entity = not (takes_out full entity) && entity.passed

-- the entities in their order, and how many trip updates are passed over
abbrev pub update_with : Head → List Entity → Update
update_with head entities = record {
  moment = head.moment;
  full = head.full;
  entities = map (stated head.full) entities;
  passed = count_by (counts head.full) entities;
}

-- of a message without a header, which is none
abbrev pub no_head : Head
no_head = record { moment = 0; full = true }

-- FeedMessage: its `header` and what its `entity`s say
abbrev pub update_of : Tree → Update
update_of tree = update_with (unwrap_or (option_map head_of (last_message 1 tree)) no_head) (map entity_of (messages 2 tree))
