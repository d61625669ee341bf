-- Sides whose texts fit into replies: the length of a body is read in ten digits at most.
use Rattle.std.specs.Prelude.{◌≡◌, ℕ, ◌<◌, true, length}
use Rattle.connection_uri.specs.Base.{BaseParts}
use Rattle.page_json.specs.Tree.{page_text_of, stops_text_of}
use Rattle.page_json.specs.declared.page.Page.{Page}
use Rattle.lc_world.specs.Sides.Response.{IsPageOf}
use Rattle.lc_world.specs.Sides.Side.{IsValidSide, Side, has_version}

-- neither the stops document nor a page of a version of the side has a text of 10,000,000,000 bytes or more
pub record IsShort (side : Side) : Type 0 where
  pub doc : length (stops_text_of side.base side.doc) < 10_000_000_000
  pub pages :
      (version departs : ℕ) (page : Page) → has_version side version ≡ true → IsPageOf side version departs page
      → length (page_text_of side.base page) < 10_000_000_000

-- the side is valid, is under this base, and its texts fit into replies
pub record StandsUnder (base : BaseParts) (side : Side) : Type 0 where
  pub is_base : side.base ≡ base
  pub valid : IsValidSide side
  pub short : IsShort side
