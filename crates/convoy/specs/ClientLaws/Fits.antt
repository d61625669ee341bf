-- When a client agrees with the side that it asks.
use Rattle.std.specs.Prelude.{◌≡◌, ◌≢◌, ℕ, true, ◌⊎◌, List, [], ◌∷◌, ◌++◌, Option, Some, None}
use Rattle.lc_model.specs.Stop.{HasStop}
use Rattle.lc_model.specs.declared.answer.Answer.{Answer}
use Rattle.lc_model.specs.declared.answer.Answer.TheVariants as answers
use Rattle.lc_model.specs.declared.page.PageName.{PageName}
use Rattle.lc_model.specs.Versions.Pages.{CutPage, page_for}
use Rattle.page_json.specs.Sound.{IsSoundName}
use Rattle.convoy.specs.PageLaws.Chain.{connections_along}
use Rattle.convoy.specs.PageLaws.Needed.{IsOver}
use Rattle.convoy.specs.PageLaws.Rides.{pages_on}
use Rattle.page_client.specs.Client.{StandsFor, shown}
use Rattle.page_client.specs.Shown.{IsRefusal, Shown}
use Rattle.page_client.specs.declared.client.Client.{Client}
use Rattle.page_client.specs.declared.fault.QueryFault.{QueryFault}
use Rattle.page_client.specs.declared.fault.QueryFault.TheVariants.{HorizonRange, SameStop, UnknownFrom, UnknownTo}
use Rattle.page_client.specs.declared.outcome.Outcome.{Outcome}
use Rattle.page_client.specs.declared.outcome.Outcome.TheVariants as outcomes
use Rattle.page_client.specs.declared.phase.Phase.{Phase}
use Rattle.page_client.specs.declared.phase.Phase.TheVariants as phases
use Rattle.page_client.specs.declared.want.Want.{Want}
use Rattle.page_client.specs.declared.want.Want.TheVariants as wants
use Rattle.lc_world.specs.Sides.PageAt.{named}
use Rattle.lc_world.specs.Sides.Side.{Side, has_version}
use Rattle.convoy.specs.ClientLaws.Answered.{AnswersAt, NeededAt, names_at}
use Rattle.convoy.specs.ClientLaws.Published.{IsPublished, Published}
use Rattle.convoy.specs.ClientLaws.Wants.{AreWants, HasEnds, wants_of}

-- the version, if there is one, is one of the side
abbrev pub IsOfSide : Side → Option ℕ → Type 0
IsOfSide side None = Unit {0}
IsOfSide side (Some version) = has_version side version ≡ true

-- it waits for the time gate: its question is not refused, and it received nothing
pub record IsAtGate (s : Shown) (wanted : List Want) : Type 0 where
  pub accepted : IsRefusal s.query None
  pub no_version : s.version ≡ None
  pub no_outcome : s.outcome ≡ None
  pub given : wanted ≡ []

-- it waits for the stops document, and the page after it is the one for the moment at which the question leaves, at its version
pub record IsSentOn (side : Side) (s : Shown) (wanted : List Want) (name : PageName) : Type 0 where
  pub accepted : IsRefusal s.query None
  pub at_version : s.version ≡ Some name.version
  pub no_outcome : s.outcome ≡ None
  pub given : wanted ≡ wants.Gate ∷ []
  pub published : Published
  pub is_published : IsPublished side name.version published
  pub is_page : name ≡ named name.version (page_for published.first published.rest s.query.leave).departs
  pub sound : IsSoundName name

-- It waits for a page. It took the stops document of the side and the pages before that one. They begin with the page for the moment at
-- which the question leaves. It was not over after any of them.
pub record WaitsForPage (side : Side) (client : Client) (wanted : List Want) (name : PageName) : Type 0 where
  pub accepted : IsRefusal client.query None
  pub at_version : client.version ≡ Some name.version
  pub no_outcome : client.outcome ≡ None
  pub ends : HasEnds side.doc client.query
  pub published : Published
  pub is_published : IsPublished side name.version published
  pub before : List CutPage
  pub page : CutPage
  pub behind : List CutPage
  pub parts : pages_on published.first published.rest client.query ≡ before ++ page ∷ behind
  pub is_page : name ≡ named name.version page.departs
  pub sound : IsSoundName name
  pub given : wanted ≡ wants_of (names_at name.version before)
  pub goes_on : (front : List CutPage) (taken : CutPage) (more : List CutPage) → before ≡ front ++ taken ∷ more → ¬ IsOver client.query side.doc front taken
  pub stands : StandsFor client side.doc (connections_along before)
  pub by_gate : (before ≡ []) ⊎ (client.gate ≡ None)

-- it ended with an answer: this is one at its version, and it wanted the needed pages, no page more and none less
pub record HasAnswered (side : Side) (s : Shown) (wanted : List Want) (answer : Answer) : Type 0 where
  pub accepted : IsRefusal s.query None
  pub ends : HasEnds side.doc s.query
  pub version : ℕ
  pub at_version : s.version ≡ Some version
  pub of_side : has_version side version ≡ true
  pub answers : AnswersAt side version s.query answer
  pub names : List PageName
  pub are_needed : NeededAt side version s.query names
  pub given : wanted ≡ wants_of names

-- it was refused at once, and deserved it
pub record IsDeniedAtOnce (s : Shown) (wanted : List Want) (fault : QueryFault) : Type 0 where
  pub deserved : IsRefusal s.query (Some fault)
  pub given : wanted ≡ []

-- it was refused since the stops document lacks the stop where the question begins
pub record LacksFrom (side : Side) (s : Shown) (wanted : List Want) : Type 0 where
  pub accepted : IsRefusal s.query None
  pub no_from : HasStop side.doc.stops s.query.from → ⊥
  pub given : wanted ≡ wants_of []

-- or since it lacks the one where it ends
pub record LacksTo (side : Side) (s : Shown) (wanted : List Want) : Type 0 where
  pub accepted : IsRefusal s.query None
  pub from : HasStop side.doc.stops s.query.from
  pub no_to : HasStop side.doc.stops s.query.to → ⊥
  pub given : wanted ≡ wants_of []

-- a refusal was deserved
abbrev pub IsDenied : Side → Shown → List Want → QueryFault → Type 0
IsDenied side s wanted HorizonRange = IsDeniedAtOnce s wanted HorizonRange
IsDenied side s wanted SameStop = IsDeniedAtOnce s wanted SameStop
IsDenied side s wanted UnknownFrom = LacksFrom side s wanted
IsDenied side s wanted UnknownTo = LacksTo side s wanted

-- A link failed after the time gate: its wants are what it received, then what it asked for in vain, and then others.
pub record IsCutShort (side : Side) (s : Shown) (wanted : List Want) (version : ℕ) : Type 0 where
  pub of_side : has_version side version ≡ true
  pub past_gate : wanted ≢ []
  pub goes_on : (all : List Want) → AreWants side version s.query all → (asked : Want) × (more : List Want) × (all ≡ wanted ++ asked ∷ more)

-- a link failed: at the time gate, and it has no version, or after it
abbrev pub HasFailed : Side → Shown → List Want → Option ℕ → Type 0
HasFailed side s wanted None = IsRefusal s.query None × (wanted ≡ [])
HasFailed side s wanted (Some version) = IsCutShort side s wanted version

-- How it ended: with an answer, or refused, or by a fault of the link, or out of memory. It never ended by a reply that fails a test.
abbrev pub HasEnded : Side → Shown → List Want → Option Outcome → Type 0
HasEnded side s wanted None = Unit {0}
HasEnded side s wanted (Some (outcomes.Found journey)) = HasAnswered side s wanted (answers.Journey journey)
HasEnded side s wanted (Some outcomes.NoJourney) = HasAnswered side s wanted answers.NoJourney
HasEnded side s wanted (Some (outcomes.Refused fault)) = IsDenied side s wanted fault
HasEnded side s wanted (Some (outcomes.LinkFault before after)) = HasFailed side s wanted s.version
HasEnded side s wanted (Some (outcomes.PeerWrong reply fault)) = ⊥

-- what holds in each phase
abbrev pub FitsAt : Side → Client → List Want → Phase → Type 0
FitsAt side client wanted phases.Gate = IsAtGate (shown client) wanted
FitsAt side client wanted (phases.Stops first) = IsSentOn side (shown client) wanted first
FitsAt side client wanted (phases.Page name) = WaitsForPage side client wanted name
FitsAt side client wanted phases.Finished = HasEnded side (shown client) wanted client.outcome

-- The client agrees with the side, and received what it wanted up to now. Its version is one of the side, and in its phase it
-- agrees with the side's documents.
pub record FitsSide (side : Side) (client : Client) (wanted : List Want) : Type 0 where
  pub of_side : IsOfSide side client.version
  pub fits : FitsAt side client wanted client.phase
