-- What the code has read, as the tree of fields that it stands for.
use Rattle.std.specs.Prelude.{◌≡◌, ℕ, ◌≤◌, map, Option, Some, None, option_map, is_some, unwrap_or, Result, Ok, Err, ◌⊎◌}
use Rattle.std.specs.Option.{option_copied}
use Rattle.rt_protobuf.specs.declared.field.Value.{Value}
use Rattle.rt_protobuf.specs.declared.field.Value.TheVariants as values
use Rattle.trip_updates.specs.declared.descriptor.Descriptor.{Descriptor}
use Rattle.trip_updates.specs.declared.entity.Entity.{Entity}
use Rattle.trip_updates.specs.declared.entity.EntityFields.{EntityFields}
use Rattle.trip_updates.specs.declared.header.Head.{Head}
use Rattle.trip_updates.specs.declared.header.HeaderFields.{HeaderFields}
use Rattle.trip_updates.specs.declared.message.FeedFields.{FeedFields}
use Rattle.trip_updates.specs.declared.stop.StopFields.{StopFields}
use Rattle.trip_updates.specs.declared.trip.TripFields.{TripFields}
use Rattle.trip_updates.specs.declared.trip.TripSaid.{TripSaid}
use Rattle.lc_model.specs.declared.versions.update.Update.{Update}
use Rattle.trip_updates.specs.declared.fault.RtFault.{RtFault}
use Rattle.trip_updates.specs.declared.fault.RtFault.TheVariants as faults
use Rattle.lc_model.specs.declared.versions.event.Event.{Event}
use Rattle.lc_model.specs.declared.versions.stop_news.StopNews.{StopNews}
use Rattle.trip_updates.specs.Tree.{Tree, last_varint, last_text, last_message, messages}
use Rattle.trip_updates.specs.Table.{low_32}
use Rattle.trip_updates.specs.Meaning.{event_of, relation_of, stop_news_of, news_of, passed_or, said_of, entity_of, is_deleted, head_of, update_of}

-- What a function gave is what reading gives, unless memory ran out.
abbrev pub Answers : {X : Type 0} → (X → Tree → Type 0) → Result X RtFault → Result Tree RtFault → Type 0
Answers shows (Ok x) (Ok tree) = shows x tree
Answers shows (Ok x) (Err fault) = ⊥
Answers shows (Err e) (Ok tree) = e ≡ faults.NoMemory
Answers shows (Err e) (Err fault) = (e ≡ faults.NoMemory) ⊎ (e ≡ fault)

-- StopTimeEvent: its `delay` and `time`
abbrev pub ShowsEvent : Event → Tree → Type 0
ShowsEvent event tree = event ≡ event_of tree

-- a span is within the bytes and ends where its field ends
abbrev pub SpanEnds : ℕ → ℕ → Value → Type 0
SpanEnds len next (values.Varint n) = Unit {0}
SpanEnds len next (values.Eight n) = Unit {0}
SpanEnds len next (values.Span from to) = (from ≤ to) × (to ≡ next) × (next ≤ len)
SpanEnds len next (values.Four n) = Unit {0}

-- FeedHeader, not yet whole: `gtfs_realtime_version`, `incrementality` and `timestamp`
abbrev pub ShowsHeader : HeaderFields → Tree → Type 0
ShowsHeader header tree = header ≡ record {
  has_version = is_some (last_text 1 tree);
  incrementality = low_32 (unwrap_or (last_varint 2 tree) 0);
  timestamp = last_varint 3 tree;
}

-- FeedHeader: its moment, and whether the message is full
abbrev pub ShowsHead : Head → Tree → Type 0
ShowsHead head tree = head ≡ head_of tree

-- TripDescriptor: `trip_id`, `start_time`, `start_date` and `schedule_relationship`
pub record ShowsDescriptor (descriptor : Descriptor) (tree : Tree) : Type 0 where
  pub trip : option_copied descriptor.trip ≡ last_text 1 tree
  pub start_time : option_copied descriptor.start_time ≡ last_text 2 tree
  pub start_date : option_copied descriptor.start_date ≡ last_text 3 tree
  pub relationship : descriptor.relationship ≡ low_32 (unwrap_or (last_varint 4 tree) 0)

-- StopTimeUpdate: `stop_sequence`, `stop_id`, `schedule_relationship`, `arrival` and `departure`
pub record ShowsStop (stop : StopFields) (tree : Tree) : Type 0 where
  pub seq : stop.seq ≡ option_map low_32 (last_varint 1 tree)
  pub named : option_copied stop.stop ≡ last_text 4 tree
  pub relation : stop.relation ≡ relation_of (low_32 (unwrap_or (last_varint 5 tree) 0))
  pub arrival : stop.arrival ≡ option_map event_of (last_message 2 tree)
  pub departure : stop.departure ≡ option_map event_of (last_message 3 tree)

-- StopTimeUpdate: the news of its stop
abbrev pub ShowsNews : StopNews → Tree → Type 0
ShowsNews news tree = news ≡ stop_news_of tree

-- both are there or none, and one shows the other
abbrev pub BothShow : {X : Type 0} → (X → Tree → Type 0) → Option X → Option Tree → Type 0
BothShow shows None None = Unit {0}
BothShow shows None (Some tree) = ⊥
BothShow shows (Some x) None = ⊥
BothShow shows (Some x) (Some tree) = shows x tree

-- TripUpdate, not yet whole: `trip` and the `stop_time_update`s
pub record ShowsTrip (trip : TripFields) (tree : Tree) : Type 0 where
  pub descriptor : BothShow ShowsDescriptor trip.descriptor (last_message 1 tree)
  pub stops : trip.stops.items ≡ map stop_news_of (messages 2 tree)

-- TripUpdate: its news, or that it is passed over
abbrev pub ShowsSaid : TripSaid → Tree → Type 0
ShowsSaid said tree = said ≡ passed_or (news_of tree)

-- FeedEntity, not yet whole: its `id`, whether it is deleted, and what `trip_update` says
pub record ShowsEntityFields (entity : EntityFields) (tree : Tree) : Type 0 where
  pub id : option_copied entity.id ≡ last_text 1 tree
  pub deleted : entity.deleted ≡ is_deleted (last_varint 2 tree)
  pub said : entity.said ≡ said_of tree

-- FeedEntity: what it says
abbrev pub ShowsEntity : Entity → Tree → Type 0
ShowsEntity entity tree = entity ≡ entity_of tree

-- FeedMessage, not yet whole: its `header` and what the `entity`s say
pub record ShowsFeed (feed : FeedFields) (tree : Tree) : Type 0 where
  pub head : feed.head ≡ option_map head_of (last_message 1 tree)
  pub entities : feed.entities.items ≡ map entity_of (messages 2 tree)

-- FeedMessage: the update that it is
abbrev pub ShowsUpdate : Update → Tree → Type 0
ShowsUpdate update tree = update ≡ update_of tree
