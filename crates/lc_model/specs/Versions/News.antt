-- What the news of a message say, as plain values (GTFS Realtime Reference: FeedEntity, TripUpdate, StopTimeUpdate).
use Rattle.std.specs.Prelude.{ℕ, List, Option}
use Rattle.lc_model.specs.declared.date.ServiceDate.{ServiceDate}
use Rattle.lc_model.specs.declared.versions.event.Event.{Event}
use Rattle.lc_model.specs.declared.versions.event.Relation.{Relation}
use Rattle.lc_model.specs.declared.versions.event.TripKind.{TripKind}

-- The news of one stop of a trip: its sequence and its id, as far as they are said. How the trip serves it, and what is
-- said of the arrival and of the departure.
pub record StopSaid : Type 0 where
  pub seq : Option ℕ
  pub stop : Option (List ℕ)
  pub relation : Relation
  pub arr : Option Event
  pub dep : Option Event

-- The news of one trip: its id, the date and the start of the run as far as they are said. What the news are, and the
-- news of its stops in the order of the message.
pub record TripSaid : Type 0 where
  pub trip : List ℕ
  pub date : Option ServiceDate
  pub start : Option ℕ
  pub kind : TripKind
  pub stops : List StopSaid

-- an entity of a message: its id, and its news where it has some
pub record EntitySaid : Type 0 where
  pub id : List ℕ
  pub news : Option TripSaid
