-- What a publisher has, and the side that it stands for.
use Rattle.std.specs.Prelude.{ℕ, Bool, List}
use Rattle.lc_model.specs.declared.doc.StopsDoc.{StopsDoc}
use Rattle.connection_uri.specs.Base.{BaseParts}
use Rattle.version_store.specs.Store.{Stored}
use Rattle.lc_world.specs.Sides.Side.{Side}

-- the way in which it cuts departures, its timetable with the messages that were admitted, its stops document, its base, and
-- whether it takes messages
pub record Held (G : Type 0) : Type 0 where
  pub cutting : G
  pub store : Stored
  pub doc : StopsDoc
  pub base : BaseParts
  pub accepts_updates : Bool

-- the side that it stands for, by what the way to cut makes of departures
abbrev pub side_of : {G : Type 0} → (G → List ℕ → List ℕ) → Held G → Side
side_of cuts_of held = record {
  runs = held.store.runs;
  doc = held.doc;
  base = held.base;
  base_moment = held.store.base;
  zone = held.store.zone;
  accepts_updates = held.accepts_updates;
  history = held.store.history;
  cuts_of = cuts_of held.cutting;
}
