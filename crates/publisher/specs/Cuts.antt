-- The cuts of versions, and lists of them.
use Rattle.std.specs.Prelude.{◌≡◌, ℕ, true, List, Contains}
use Rattle.std.proofs.Common.{Global, Vec}
use Rattle.lc_model.specs.declared.connection.Connection.{Connection}
use Rattle.lc_model.specs.Versions.Pages.{departures_of}
use Rattle.lc_world.specs.Sides.Side.{IsTimetableAt, Side, has_version}
use Rattle.publisher.specs.Place.{AreRising}

-- the cuts are those of a version of the side: of the departures of its timetable
pub record HasCuts (side : Side) (version : ℕ) (cuts : List ℕ) : Type 0 where
  pub of_side : has_version side version ≡ true
  pub list : List Connection
  pub timetable : IsTimetableAt side version list
  pub is : cuts ≡ side.cuts_of (departures_of list)

-- what is cached for a version are its cuts
abbrev pub KeepsCuts : Side → List (ℕ × Vec ℕ Global) → Type 0
KeepsCuts side cached = (version : ℕ) (cuts : Vec ℕ Global) → Contains cached (version, cuts) → HasCuts side version cuts.items

-- the cuts of each version strictly increase
abbrev pub AllRise : List (ℕ × Vec ℕ Global) → Type 0
AllRise cached = (version : ℕ) (cuts : Vec ℕ Global) → Contains cached (version, cuts) → AreRising cuts.items
