-- The latest journeys at a version of a side, and the pages that a question needs to know them.
use Rattle.std.specs.Prelude.{◌≡◌, ℕ, List, Option, Some, None}
use Rattle.lc_model.specs.Journey.{leaves_at}
use Rattle.lc_model.specs.Ride.{IsRideAt}
use Rattle.lc_model.specs.declared.journey.Journey.{Journey}
use Rattle.lc_model.specs.declared.page.PageName.{PageName}
use Rattle.lc_model.specs.declared.query.Query.{Query}
use Rattle.lc_model.specs.declared.run.Run.{Run}
use Rattle.lc_model.specs.Versions.Pages.{CutPage}
use Rattle.lc_world.specs.Sides.Side.{Side}
use Rattle.back_client.specs.Ends.LatestOf.{IsLatestOf}
use Rattle.back_client.specs.Ends.NeededBack.{AreNeededBack}
use Rattle.convoy.specs.ClientLaws.Answered.{names_at}
use Rattle.convoy.specs.ClientLaws.Published.{AreLiveAt, IsPublished, Published}

-- the answer is a latest journey over the rides of the runs at a version, or that there is no journey
pub record LatestAt (side : Side) (version : ℕ) (query : Query) (answer : Option Journey) : Type 0 where
  pub live : List Run
  pub are_live : AreLiveAt side version live
  pub is_latest : IsLatestOf (IsRideAt live) query side.doc answer

-- These are the names of the pages that a question needs at a version. They go back from the page for the last second at which a
-- journey may arrive.
pub record NeededBackAt (side : Side) (version : ℕ) (query : Query) (names : List PageName) : Type 0 where
  pub published : Published
  pub is_published : IsPublished side version published
  pub needed : List CutPage
  pub are_needed : AreNeededBack (IsRideAt published.live) query side.doc published.first published.rest needed
  pub names_are : names ≡ names_at version needed

-- the moment at which an answer leaves, if it is a journey
abbrev pub departure_of : Option Journey → Option ℕ
departure_of None = None
departure_of (Some journey) = Some (leaves_at journey)
