-- A journey of the fewest rides at a version of a side, and the pages that show it.
use Rattle.std.specs.Prelude.{◌≡◌, ◌↔◌, ℕ, List, map, Option}
use Rattle.std.specs.List.{All}
use Rattle.lc_model.specs.Ride.{IsRideAt}
use Rattle.lc_model.specs.declared.journey.Journey.{Journey}
use Rattle.lc_model.specs.declared.page.PageName.{PageName}
use Rattle.lc_model.specs.declared.query.Query.{Query}
use Rattle.lc_model.specs.declared.run.Run.{Run}
use Rattle.page_json.specs.declared.page.Page.{Page}
use Rattle.lc_world.specs.Sides.Side.{IsValidSide, Side}
use Rattle.convoy.specs.ClientLaws.Answered.{NeededAt}
use Rattle.convoy.specs.ClientLaws.Links.{connections_on}
use Rattle.convoy.specs.ClientLaws.Published.{AreLiveAt, IsOwnPage}
use Rattle.change_rounds.specs.Fewest.{IsFewestAnswer, IsFewestChain}
use Rattle.change_rounds.specs.Laws.{AreAlike}

-- by the runs at a version this is a journey of the fewest rides among the earliest arrivals, or there is no journey
pub record FewestAt (side : Side) (version : ℕ) (query : Query) (answer : Option Journey) : Type 0 where
  pub live : List Run
  pub are_live : AreLiveAt side version live
  pub is_fewest : IsFewestAnswer (IsRideAt live) query side.doc answer

-- the side's own pages of these names
pub record AreOwnPages (side : Side) (names : List PageName) (pages : List Page) : Type 0 where
  pub own : All (IsOwnPage side) pages
  pub named : map (λ (page : Page). page.name) pages ≡ names

-- what is of the fewest rides on the needed pages of a version is so at the version, and the other way round
abbrev pub FewestOfNeededAt : Type 0
FewestOfNeededAt =
    (side : Side) (version : ℕ) (query : Query) (names : List PageName) (pages : List Page) (answer : Option Journey) → IsValidSide side
    → NeededAt side version query names → AreOwnPages side names pages → (IsFewestChain query side.doc (connections_on pages) answer ↔ FewestAt side version query answer)

-- the answers of the fewest rides at a version are alike
abbrev pub AlikeAt : Type 0
AlikeAt = (side : Side) (version : ℕ) (query : Query) (a b : Option Journey) → FewestAt side version query a → FewestAt side version query b → AreAlike a b
