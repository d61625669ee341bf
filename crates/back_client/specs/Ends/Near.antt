-- Near values that are refused. They are a journey that leaves earlier than another, and no journey where there is one. Others are a page more
-- or less, an exchange more, and another version.
use Rattle.std.specs.Prelude.{◌≡◌, ◌≢◌, ℕ, ◌+◌, ◌<◌, List, [], ◌∷◌, ◌++◌, Option, Some}
use Rattle.lc_model.specs.Journey.{IsJourney, leaves_at}
use Rattle.lc_model.specs.Ride.{IsRideAt}
use Rattle.lc_model.specs.declared.journey.Journey.{Journey}
use Rattle.lc_model.specs.declared.page.PageName.{PageName}
use Rattle.lc_model.specs.declared.run.Run.{Run}
use Rattle.connection_uri.specs.Base.{BaseParts}
use Rattle.lc_world.specs.Link.{IsQuietWith, LinkSeen}
use Rattle.page_client.specs.Shown.{answered}
use Rattle.page_client.specs.declared.outcome.Outcome.TheVariants as outcomes
use Rattle.lc_world.specs.Sides.Side.{Side}
use Rattle.convoy.specs.ClientLaws.Stated.{version_at}
use Rattle.convoy.specs.ClientLaws.Published.{AreLiveAt}
use Rattle.back_scan.specs.Forward.{forward_query}
use Rattle.back_scan.specs.declared.arrive_query.ArriveQuery.{ArriveQuery}
use Rattle.back_client.specs.declared.outcome.ArriveEnd.{ArriveEnd}
use Rattle.back_client.specs.Ends.Requests.{page_request}
use Rattle.back_client.specs.Ends.Right.{HasLatest, IsRight}

-- the journey is one at the version that was named, by the runs of the side where the time gate named it
pub record IsThere {X : Type 0} (seen : X → LinkSeen) (base : BaseParts) (asked : ArriveQuery) (side : Side) (before after : X) (end : ArriveEnd) (right : IsRight seen base asked side before after end) (journey : Journey) : Type 0 where
  pub version : ℕ
  pub named : end.version ≡ Some version
  pub live : List Run
  pub are_live : AreLiveAt right.at version live
  pub is_journey : IsJourney (IsRideAt live) (forward_query asked) right.at.doc journey

-- a journey is refused that leaves earlier than another
abbrev pub NotEarlier : {X : Type 0} → (X → LinkSeen) → Type 0
NotEarlier {X} seen =
    (side : Side) (base : BaseParts) (asked : ArriveQuery) (before after : X) (end : ArriveEnd) (journey later : Journey) → end.outcome ≡ outcomes.Found journey
    → leaves_at journey < leaves_at later → (right : IsRight seen base asked side before after end) → IsThere seen base asked side before after end right later → ⊥

-- where there is a journey, it is refused that there is none
abbrev pub NotNone : {X : Type 0} → (X → LinkSeen) → Type 0
NotNone {X} seen =
    (side : Side) (base : BaseParts) (asked : ArriveQuery) (before after : X) (end : ArriveEnd) (journey : Journey) → end.outcome ≡ outcomes.NoJourney
    → (right : IsRight seen base asked side before after end) → IsThere seen base asked side before after end right journey → ⊥

-- with an answer at a version the request for a page more is refused
abbrev pub NotOnePageMore : Type 0
NotOnePageMore =
    (base : BaseParts) (side : Side) (asked : ArriveQuery) (version : Option ℕ) (requests : List (List ℕ)) (name : PageName) (first second : Option Journey) → HasLatest base side asked version requests first
    → HasLatest base side asked version (requests ++ page_request base name ∷ []) second → ⊥

-- and it is refused to leave out the last one
abbrev pub NotOnePageLess : Type 0
NotOnePageLess =
    (base : BaseParts) (side : Side) (asked : ArriveQuery) (version : Option ℕ) (requests fewer : List (List ℕ)) (last : List ℕ) (first second : Option Journey) → requests ≡ fewer ++ last ∷ []
    → HasLatest base side asked version requests first → HasLatest base side asked version fewer second → ⊥

-- with an answer no exchange more is counted
abbrev pub NotOneExchangeMore : {X : Type 0} → (X → LinkSeen) → Type 0
NotOneExchangeMore {X} seen =
    (side : Side) (base : BaseParts) (asked : ArriveQuery) (before after : X) (end : ArriveEnd) (answer : Option Journey) → IsRight seen base asked side before after end
    → end.outcome ≡ answered answer → IsRight seen base asked side before after (record end { exchanges = end.exchanges + 1 }) → ⊥

-- over a quiet link no other version is named than the one that the known moment means at its side
abbrev pub NotAnotherVersion : {X : Type 0} → (X → LinkSeen) → Type 0
NotAnotherVersion {X} seen =
    (side : Side) (base : BaseParts) (asked : ArriveQuery) (before after : X) (end : ArriveEnd) (version : ℕ) → IsQuietWith (seen before) base side → version ≢ version_at side asked.known
    → IsRight seen base asked side before after (record end { version = Some version }) → ⊥
