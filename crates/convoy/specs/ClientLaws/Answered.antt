-- The answers to a question at a version of a side, and the pages that it needs.
use Rattle.std.specs.Prelude.{◌≡◌, ℕ, List, map, Option, Some, None}
use Rattle.lc_model.specs.Journey.{IsAnswer}
use Rattle.lc_model.specs.Ride.{IsRideAt}
use Rattle.lc_model.specs.declared.answer.Answer.{Answer}
use Rattle.lc_model.specs.declared.answer.Answer.TheVariants as answers
use Rattle.lc_model.specs.declared.journey.Journey.{Journey}
use Rattle.lc_model.specs.declared.page.PageName.{PageName}
use Rattle.lc_model.specs.declared.query.Query.{Query}
use Rattle.lc_model.specs.declared.run.Run.{Run}
use Rattle.lc_model.specs.Versions.Pages.{CutPage}
use Rattle.convoy.specs.PageLaws.Needed.{AreNeeded}
use Rattle.lc_world.specs.Sides.PageAt.{named}
use Rattle.lc_world.specs.Sides.Side.{Side}
use Rattle.convoy.specs.ClientLaws.Published.{AreLiveAt, IsPublished, Published}

-- the answer is a best journey over the rides of the runs at a version, or that there is none
pub record AnswersAt (side : Side) (version : ℕ) (query : Query) (answer : Answer) : Type 0 where
  pub live : List Run
  pub are_live : AreLiveAt side version live
  pub is_answer : IsAnswer (IsRideAt live) query side.doc answer

-- the answer that a journey is, or that there is none
abbrev pub answer_of : Option Journey → Answer
answer_of (Some journey) = answers.Journey journey
answer_of None = answers.NoJourney

-- the names of pages of a version
abbrev pub names_at : ℕ → List CutPage → List PageName
names_at version pages = map (λ (p : CutPage). named version p.departs) pages

-- these are the names of the pages that a question needs at a version
pub record NeededAt (side : Side) (version : ℕ) (query : Query) (names : List PageName) : Type 0 where
  pub published : Published
  pub is_published : IsPublished side version published
  pub needed : List CutPage
  pub are_needed : AreNeeded (IsRideAt published.live) query side.doc published.first published.rest needed
  pub names_are : names ≡ names_at version needed
