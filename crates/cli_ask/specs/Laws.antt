-- That the output of a question is one, where the replies come as the publisher gave them. What a publisher has after a message.
use Rattle.std.specs.Prelude.{◌≡◌, ◌⊎◌, ℕ, Bool, List, [], ◌∷◌, ◌++◌, Option}
use Rattle.convoy.specs.ClientLaws.Fits.{IsCutShort}
use Rattle.convoy.specs.ClientLaws.Wants.{AreWants, wants_of}
use Rattle.convoy.specs.Replies.Laws.{SayTheSame}
use Rattle.cli_words.specs.declared.command.Publishing.{Publishing}
use Rattle.fragmenter.specs.declared.cutting.Cutting.{Cutting}
use Rattle.lc_io.specs.Counts.{Rose}
use Rattle.lc_io.specs.declared.file.File.{File}
use Rattle.lc_model.specs.declared.page.PageName.{PageName}
use Rattle.lc_model.specs.declared.query.Query.{Query}
use Rattle.lc_world.specs.Link.{LinkSeen}
use Rattle.page_client.specs.declared.outcome.Outcome.{Outcome}
use Rattle.page_client.specs.declared.outcome.Outcome.TheVariants as outcomes
use Rattle.page_client.specs.Shown.{Shown}
use Rattle.page_client.specs.declared.want.Want.{Want}
use Rattle.page_client.specs.declared.want.Want.TheVariants as wants
use Rattle.publisher.specs.Held.{Held}
use Rattle.lc_world.specs.Sides.Short.{IsShort}
use Rattle.lc_world.specs.Sides.Side.{IsValidSide, Side}
use Rattle.timetable.specs.Laws.{AreSame}
use Rattle.timetable.specs.declared.timetable.Timetable.{Timetable}
use Rattle.version_store.specs.Store.{Stored}
use Rattle.cli_ask.specs.Admission.{IsBehind}
use Rattle.cli_ask.specs.Asked.{IsAsked}
use Rattle.cli_ask.specs.Block.{client_text_of}
use Rattle.cli_ask.specs.Publishing.{PublishesAfter, side_with, store_of}
use Rattle.cli_ask.specs.declared.end.ClientEnd.{ClientEnd}

-- the client ended by no fault of its link
abbrev pub IsNoLinkFault : Outcome → Type 0
IsNoLinkFault (outcomes.Found journey) = Unit {0}
IsNoLinkFault outcomes.NoJourney = Unit {0}
IsNoLinkFault (outcomes.Refused fault) = Unit {0}
IsNoLinkFault (outcomes.LinkFault before after) = ⊥
IsNoLinkFault (outcomes.PeerWrong reply fault) = Unit {0}

-- the ends of two clients are one: the same version, outcomes that say the same, and so many exchanges
pub record AreOneEnd (a b : ClientEnd) : Type 0 where
  pub version : a.version ≡ b.version
  pub outcome : SayTheSame a.outcome b.outcome
  pub exchanges : a.exchanges ≡ b.exchanges

-- the texts have the same line of the message, and the lines of clients whose ends are one
pub record PrintOneClient (x y : List ℕ) (a b : ClientEnd) : Type 0 where
  pub line : List ℕ
  pub first_is : x ≡ line ++ client_text_of 1 a
  pub second_is : y ≡ line ++ client_text_of 1 b
  pub one : AreOneEnd a b

-- a link was clear and failed in no exchange, and the texts of the publisher that has got the message fit into replies
pub record IsFair (made : Timetable) (publishing : Publishing) (file : Option File) (clear : Type 0) (before after : ℕ) : Type 0 where
  pub was_clear : clear
  pub no_fault : Rose before after → ⊥
  pub short : (store : Stored) (line : List ℕ) → IsBehind file (store_of made publishing.base_moment) store line → IsShort (side_with made publishing store)

-- Timetables that are the same, a message and a question give one output over fair links. X and Y are the types of the links, and
-- `seen` and `saw` what is promised of them.
abbrev pub OneOutput : {X Y : Type 0} → (X → LinkSeen) → (Y → LinkSeen) → Type 0
OneOutput {X} {Y} seen saw =
    (a b : Timetable) (publishing : Publishing) (file : Option File) (query : Query) (before after : X) (other later : Y) (x y : List ℕ) (d e : ClientEnd)
    → AreSame a b → IsFair a publishing file (seen before).clear (seen before).faults (seen after).faults
    → IsFair b publishing file (saw other).clear (saw other).faults (saw later).faults
    → IsAsked a publishing file query (seen before) (seen after) x d → IsAsked b publishing file query (saw other) (saw later) y e
    → PrintOneClient x y d e

-- a timetable and a message make one publisher, and one line
abbrev pub OnePublisher : Type 0
OnePublisher =
    (made : Timetable) (publishing : Publishing) (accepts : Bool) (file : Option File) (held other : Held Cutting) (line later : List ℕ)
    → PublishesAfter made publishing accepts file held line → PublishesAfter made publishing accepts file other later
    → (held ≡ other) × (line ≡ later)

-- a valid side has a list of wants for each question, at each of its versions
abbrev pub SomeWants : Type 0
SomeWants = (side : Side) (version : ℕ) (query : Query) → IsValidSide side → (all : List Want) × AreWants side version query all

-- these wants are those of a question: first what a client received, then what it asked for in vain, then the rest
pub record StandsInFront (side : Side) (version : ℕ) (query : Query) (given all : List Want) : Type 0 where
  pub are_wants : AreWants side version query all
  pub asked : Want
  pub more : List Want
  pub is : all ≡ given ++ asked ∷ more

-- what a client received that failed after the time gate is in front of a list of wants
abbrev pub SomeFront : Type 0
SomeFront =
    (side : Side) (s : Shown) (given : List Want) (version : ℕ) → IsValidSide side → IsCutShort side s given version
    → (all : List Want) × StandsInFront side version s.query given all

-- By that the wants are in order: the time gate alone, or it and the stops document and then pages. Any other list is near and refused.
abbrev pub AreGivenInOrder : Type 0
AreGivenInOrder =
    (side : Side) (s : Shown) (given : List Want) (version : ℕ) → IsValidSide side → IsCutShort side s given version
    → (given ≡ wants.Gate ∷ []) ⊎ ((names : List PageName) × (given ≡ wants_of names))
