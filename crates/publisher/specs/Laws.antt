-- A side that is valid has what its pages are made of, and a reply to each request.
use Rattle.std.specs.Prelude.{◌≡◌, ℕ, true, List}
use Rattle.lc_model.specs.declared.connection.Connection.{Connection}
use Rattle.http_text.specs.Request.{IsWhole}
use Rattle.page_json.specs.Sound.{IsSoundDoc, IsSoundPage}
use Rattle.page_json.specs.declared.page.Page.{Page}
use Rattle.lc_world.specs.Sides.Reply.{IsNextSide, IsReply}
use Rattle.lc_world.specs.Sides.Response.{IsPageOf}
use Rattle.lc_world.specs.Sides.Side.{IsTimetableAt, IsValidSide, Side, has_version}

-- each version of a valid side has some timetable
abbrev pub SomeTimetable : Type 0
SomeTimetable = (side : Side) (version : ℕ) → IsValidSide side → (list : List Connection) × IsTimetableAt side version list

-- what the side says is as its types have it
pub record IsSoundSide (side : Side) : Type 0 where
  pub doc : IsSoundDoc side.doc
  pub pages : (version departs : ℕ) (page : Page) → has_version side version ≡ true → IsPageOf side version departs page → IsSoundPage page

-- each whole request has a reply of a valid side whose documents are sound
abbrev pub SomeReply : Type 0
SomeReply = (side : Side) (bytes : List ℕ) → IsValidSide side → IsSoundSide side → IsWhole bytes → (text : List ℕ) × IsReply side bytes text

-- and leaves a side
abbrev pub SomeNextSide : Type 0
SomeNextSide = (side : Side) (bytes : List ℕ) → IsWhole bytes → (next : Side) × IsNextSide side bytes next
