-- Where the page for a moment of departure is at a version of a side.
use Rattle.std.specs.Prelude.{◌≡◌, ℕ, List}
use Rattle.lc_model.specs.declared.connection.Connection.{Connection}
use Rattle.lc_model.specs.Versions.Cuts.{AreCuts}
use Rattle.lc_model.specs.Versions.Pages.{departures_of}
use Rattle.lc_world.specs.Sides.Side.{IsTimetableAt, Side}
use Rattle.publisher.specs.Place.{place_of}
use Rattle.publisher.specs.declared.place.Place.{Place}

-- it is the place among the lawful cuts of the version's departures
pub record IsPlaceOf (side : Side) (version departs : ℕ) (place : Place) : Type 0 where
  pub list : List Connection
  pub timetable : IsTimetableAt side version list
  pub lawful : AreCuts (departures_of list) (side.cuts_of (departures_of list))
  pub is : place ≡ place_of (side.cuts_of (departures_of list)) departs
