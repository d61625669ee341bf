-- A link at home to the publisher of a timetable that received its message.
use Rattle.std.specs.Prelude.{◌≡◌, ℕ, List, [], Option}
use Rattle.cli_words.specs.declared.command.Publishing.{Publishing}
use Rattle.connection_uri.specs.Base.{BaseParts}
use Rattle.fragmenter.specs.declared.cutting.Cutting.{Cutting}
use Rattle.lc_io.specs.declared.file.File.{File}
use Rattle.lc_links.specs.HomeLink.{HomeLinkState}
use Rattle.publisher.specs.Held.{Held}
use Rattle.lc_world.specs.Sides.Side.{IsValidSide}
use Rattle.timetable.specs.declared.timetable.Timetable.{Timetable}
use Rattle.version_store.specs.Store.{Stored}
use Rattle.cli_ask.specs.Admission.{IsBehind}
use Rattle.cli_ask.specs.Publishing.{held_with, side_with, store_of}

-- the publisher has the store after the message, and its base again
pub record IsPrepared (made : Timetable) (publishing : Publishing) (file : Option File) (held : Held Cutting) (base : BaseParts) (line : List ℕ) : Type 0 where
  pub store : Stored
  pub held_is : held ≡ held_with made publishing store
  pub base_is : base ≡ publishing.base
  pub behind : IsBehind file (store_of made publishing.base_moment) store line

-- this publisher answers at home, and each answer is handed on over this link; the line and the base are these
pub record IsAtHome {L : Type 0} (held : Held Cutting) (own : BaseParts) (said : List ℕ) (link : L) (line : List ℕ) (base : BaseParts) (home : HomeLinkState Cutting L) : Type 0 where
  pub home_is : home ≡ record { local = record { publisher = held; recorded = []; asked = 0 }; outer = link }
  pub base_is : base ≡ own
  pub line_is : line ≡ said

-- A publisher answers at home whose side is valid and which has the store after the message. Each answer is handed on over this link. The line
-- is that of the message, and the base that of the publisher.
pub record IsOpened {L : Type 0} (made : Timetable) (publishing : Publishing) (file : Option File) (link : L) (line : List ℕ) (base : BaseParts) (home : HomeLinkState Cutting L) : Type 0 where
  pub store : Stored
  pub behind : IsBehind file (store_of made publishing.base_moment) store line
  pub publisher_is : home.local.publisher ≡ held_with made publishing store
  pub valid : IsValidSide (side_with made publishing store)
  pub outer_is : home.outer ≡ link
  pub base_is : base ≡ publishing.base
