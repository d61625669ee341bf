-- That what is published, answered and needed at a version is one, and stays.
use Rattle.std.specs.Prelude.{◌≡◌, ℕ, true, List, ◌∷◌, reverse, ◌↔◌}
use Rattle.lc_model.specs.Connection.{NoneArrivesEarly}
use Rattle.lc_model.specs.Laws.{arrival_of}
use Rattle.lc_model.specs.Run.{RunsForward}
use Rattle.lc_model.specs.declared.answer.Answer.{Answer}
use Rattle.lc_model.specs.declared.page.PageName.{PageName}
use Rattle.lc_model.specs.declared.query.Query.{Query}
use Rattle.lc_model.specs.Versions.Pages.{CutPage, departures_of, page_for}
use Rattle.page_json.specs.declared.page.Page.{Page}
use Rattle.convoy.specs.PageLaws.Chain.{ArePagesOf, along_next, along_previous}
use Rattle.page_client.specs.declared.client.Client.{Client}
use Rattle.page_client.specs.declared.want.Want.{Want}
use Rattle.lc_world.specs.Sides.PageAt.{linked}
use Rattle.lc_world.specs.Sides.Response.{IsPageOf}
use Rattle.lc_world.specs.Sides.Side.{IsLater, IsValidSide, Side, has_version}
use Rattle.convoy.specs.ClientLaws.Answered.{AnswersAt, NeededAt}
use Rattle.convoy.specs.ClientLaws.Fits.{FitsSide}
use Rattle.convoy.specs.ClientLaws.Published.{IsOwnPage, IsPublished, Published, between}
use Rattle.convoy.specs.ClientLaws.Wants.{AreWants}

-- one thing is published of a version
abbrev pub OnePublished : Type 0
OnePublished = (side : Side) (version : ℕ) (a b : Published) → IsPublished side version a → IsPublished side version b → a ≡ b

-- its pages are pages of its connections, its runs go forward, and no connection arrives before it departs
pub record IsLawful (published : Published) : Type 0 where
  pub pages : ArePagesOf published.list published.first published.rest
  pub runs : RunsForward published.live
  pub forward : NoneArrivesEarly published.list

-- what is published at a version of a valid side is lawful
abbrev pub PublishedIsLawful : Type 0
PublishedIsLawful = (side : Side) (version : ℕ) (published : Published) → IsValidSide side → IsPublished side version published → IsLawful published

-- a page of a version is one of what is published
pub record IsAmong (side : Side) (version departs : ℕ) (page : Page) : Type 0 where
  pub published : Published
  pub is_published : IsPublished side version published
  pub is : page ≡ linked version (side.cuts_of (departures_of published.list)) (page_for published.first published.rest departs)

-- each page of a side is among those that are published at its version
abbrev pub PagesAreAmong : Type 0
PagesAreAmong = (side : Side) (version departs : ℕ) (page : Page) → IsPageOf side version departs page → IsAmong side version departs page

-- The page that is sent for a moment is the one for it of what is published. Its next link leads to the page after it along the next
-- links, and its previous link to the nearest one along the previous links. It lacks one where there is no such page.
pub record LinksToNeighbours (version moment : ℕ) (published : Published) (page : Page) : Type 0 where
  pub behind : List CutPage
  pub along : along_next published.first published.rest moment ≡ page_for published.first published.rest moment ∷ behind
  pub is : page ≡ between version (reverse (along_previous published.first published.rest moment)) (page_for published.first published.rest moment) behind

-- the links of each page of a side lead to its neighbours
abbrev pub LinksLeadAlong : Type 0
LinksLeadAlong =
    (side : Side) (version moment : ℕ) (published : Published) (page : Page) → IsValidSide side → IsPublished side version published → IsPageOf side version moment page
    → LinksToNeighbours version moment published page

-- the answers to a question at a version have one arrival
abbrev pub OneArrivalAt : Type 0
OneArrivalAt =
    (side : Side) (version : ℕ) (query : Query) (a b : Answer) → AnswersAt side version query a → AnswersAt side version query b
    → arrival_of a ≡ arrival_of b

-- the needed pages are one list
abbrev pub OneListOfNeededAt : Type 0
OneListOfNeededAt =
    (side : Side) (version : ℕ) (query : Query) (a b : List PageName) → NeededAt side version query a → NeededAt side version query b → a ≡ b

-- the wants are one list
abbrev pub OneListOfWants : Type 0
OneListOfWants =
    (side : Side) (version : ℕ) (query : Query) (a b : List Want) → AreWants side version query a → AreWants side version query b → a ≡ b

-- what is so of a version of a side is so at every later side, and what is so there was so before
abbrev pub Stays : (Side → ℕ → Type 0) → Type 0
Stays IsSo =
    (before after : Side) (version : ℕ) → IsValidSide after → IsLater before after → has_version before version ≡ true
    → (IsSo before version ↔ IsSo after version)

-- what is published stays
abbrev pub PublishedStays : Type 0
PublishedStays = (published : Published) → Stays (λ side version. IsPublished side version published)

-- an answer stays one
abbrev pub AnswersStay : Type 0
AnswersStay = (query : Query) (answer : Answer) → Stays (λ side version. AnswersAt side version query answer)

-- the names of the needed pages stay
abbrev pub NeededStays : Type 0
NeededStays = (query : Query) (names : List PageName) → Stays (λ side version. NeededAt side version query names)

-- the wants of a question stay
abbrev pub WantsStay : Type 0
WantsStay = (query : Query) (wanted : List Want) → Stays (λ side version. AreWants side version query wanted)

-- a page of a side is one of every later side
abbrev pub OwnPagesStay : Type 0
OwnPagesStay = (before after : Side) (page : Page) → IsValidSide after → IsLater before after → IsOwnPage before page → IsOwnPage after page

-- a client that agrees with a side agrees with every later one
abbrev pub FitsStays : Type 0
FitsStays =
    (before after : Side) (client : Client) (wanted : List Want) → IsValidSide after → IsLater before after → FitsSide before client wanted
    → FitsSide after client wanted
