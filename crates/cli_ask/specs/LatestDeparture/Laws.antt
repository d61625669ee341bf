-- That the output of a question for the latest departure is one, where the replies come as the publisher gave them, and that it wants some pages.
use Rattle.std.specs.Prelude.{◌≡◌, ℕ, List, ◌++◌, Option, None}
use Rattle.back_scan.specs.Forward.{forward_query}
use Rattle.back_scan.specs.declared.arrive_query.ArriveQuery.{ArriveQuery}
use Rattle.cli_ask.specs.LatestDeparture.Asked.{IsAskedLatest}
use Rattle.cli_ask.specs.Block.{client_text_of}
use Rattle.cli_ask.specs.Laws.{IsFair}
use Rattle.cli_ask.specs.declared.end.ClientEnd.{ClientEnd}
use Rattle.cli_words.specs.declared.command.Publishing.{Publishing}
use Rattle.back_client.specs.Ends.Requests.{AreWanted}
use Rattle.back_client.specs.Ends.ReplyLaws.{SayOneLatest}
use Rattle.lc_io.specs.declared.file.File.{File}
use Rattle.lc_model.specs.declared.page.PageName.{PageName}
use Rattle.lc_world.specs.Link.{LinkSeen}
use Rattle.page_client.specs.Shown.{IsRefusal}
use Rattle.lc_world.specs.Sides.Side.{IsValidSide, Side}
use Rattle.timetable.specs.Laws.{AreSame}
use Rattle.timetable.specs.declared.timetable.Timetable.{Timetable}

-- two ends are one: the same version, as many exchanges, and outcomes that say the same
pub record AreOneLatest (a b : ClientEnd) : Type 0 where
  pub version : a.version ≡ b.version
  pub exchanges : a.exchanges ≡ b.exchanges
  pub outcome : SayOneLatest a.outcome b.outcome

-- the texts have the same line of the message, and the lines of clients whose ends are one
pub record PrintOneLatest (x y : List ℕ) (a b : ClientEnd) : Type 0 where
  pub line : List ℕ
  pub first_is : x ≡ line ++ client_text_of 1 a
  pub second_is : y ≡ line ++ client_text_of 1 b
  pub one : AreOneLatest a b

-- Timetables that are the same, a message and a question give one output over fair links. X and Y are the types of the links, and
-- `seen` and `saw` what is promised of them.
abbrev pub OneLatestOutput : {X Y : Type 0} → (X → LinkSeen) → (Y → LinkSeen) → Type 0
OneLatestOutput {X} {Y} seen saw =
    (a b : Timetable) (publishing : Publishing) (file : Option File) (asked : ArriveQuery) (before after : X) (other later : Y) (x y : List ℕ) (d e : ClientEnd)
    → AreSame a b → IsFair a publishing file (seen before).clear (seen before).faults (seen after).faults
    → IsFair b publishing file (saw other).clear (saw other).faults (saw later).faults
    → IsAskedLatest a publishing file asked (seen before) (seen after) x d → IsAskedLatest b publishing file asked (saw other) (saw later) y e
    → PrintOneLatest x y d e

-- a question that is not refused at once wants some pages, or none, at each version of a valid side
abbrev pub SomeWanted : Type 0
SomeWanted =
    (side : Side) (version : ℕ) (asked : ArriveQuery) → IsValidSide side → IsRefusal (forward_query asked) None → (names : List PageName) × AreWanted side version asked names
