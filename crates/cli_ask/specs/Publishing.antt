-- The side of a publisher: that of a timetable with the messages that its store admitted.
use Rattle.std.specs.Prelude.{◌≡◌, ℕ, Bool, List, [], false, Option}
use Rattle.cli_words.specs.declared.command.Publishing.{Publishing}
use Rattle.fragmenter.specs.Cutting.{chosen_cuts}
use Rattle.fragmenter.specs.declared.cutting.Cutting.{Cutting}
use Rattle.lc_io.specs.declared.file.File.{File}
use Rattle.publisher.specs.Held.{Held, side_of}
use Rattle.lc_world.specs.Sides.Side.{Side}
use Rattle.timetable.specs.declared.timetable.Timetable.{Timetable}
use Rattle.version_store.specs.Store.{Stored}
use Rattle.cli_ask.specs.Admission.{IsBehind}

-- the store of a timetable to which no message was admitted
abbrev pub store_of : Timetable → ℕ → Stored
store_of made base_moment = record { runs = made.runs; stops = made.doc.stops; zone = made.zone; base = base_moment; history = [] }

-- what a publisher of the timetable has that has this store, and takes messages from its clients or does not
abbrev pub held_for : Timetable → Publishing → Stored → Bool → Held Cutting
held_for made publishing store accepts = record {
  cutting = publishing.cutting;
  store = store;
  doc = made.doc;
  base = publishing.base;
  accepts_updates = accepts;
}

-- its side
abbrev pub side_for : Timetable → Publishing → Stored → Bool → Side
side_for made publishing store accepts = side_of chosen_cuts (held_for made publishing store accepts)

-- what an in-process publisher has, which takes no messages from its clients
abbrev pub held_with : Timetable → Publishing → Stored → Held Cutting
held_with made publishing store = held_for made publishing store false

-- its side
abbrev pub side_with : Timetable → Publishing → Stored → Side
side_with made publishing store = side_for made publishing store false

-- The publisher of the timetable has the store after the message of a file, if there is one. The line says what became of it.
pub record PublishesAfter (made : Timetable) (publishing : Publishing) (accepts : Bool) (file : Option File) (held : Held Cutting) (line : List ℕ) : Type 0 where
  pub store : Stored
  pub held_is : held ≡ held_for made publishing store accepts
  pub behind : IsBehind file (store_of made publishing.base_moment) store line
