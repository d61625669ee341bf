-- Near values that a right end refuses: a ride more or less, no journey, an exchange more, another version.
use Rattle.std.specs.Prelude.{◌≡◌, ◌≢◌, ℕ, ◌+◌, Option, Some, length}
use Rattle.lc_model.specs.declared.journey.Journey.{Journey}
use Rattle.lc_model.specs.declared.query.Query.{Query}
use Rattle.connection_uri.specs.Base.{BaseParts}
use Rattle.lc_world.specs.Link.{IsQuietWith, LinkSeen}
use Rattle.page_client.specs.Shown.{answered}
use Rattle.page_client.specs.declared.outcome.Outcome.TheVariants as outcomes
use Rattle.lc_world.specs.Sides.Side.{Side}
use Rattle.convoy.specs.ClientLaws.Stated.{version_at}
use Rattle.rounds_client.specs.declared.ending.FewestEnd.{FewestEnd}
use Rattle.rounds_client.specs.Ends.Right.{IsRight}

-- a journey with a ride more is refused, as a best one may be that a Connection Scan finds
abbrev pub NotOneRideMore : {X : Type 0} → (X → LinkSeen) → Type 0
NotOneRideMore {X} seen =
    (side : Side) (base : BaseParts) (query : Query) (before after : X) (end : FewestEnd) (journey other : Journey) → IsRight seen base query side before after end
    → end.outcome ≡ outcomes.Found journey → length other.rides ≡ length journey.rides + 1 → IsRight seen base query side before after (record end { outcome = outcomes.Found other }) → ⊥

-- and one with a ride less
abbrev pub NotOneRideFewer : {X : Type 0} → (X → LinkSeen) → Type 0
NotOneRideFewer {X} seen =
    (side : Side) (base : BaseParts) (query : Query) (before after : X) (end : FewestEnd) (journey other : Journey) → IsRight seen base query side before after end
    → end.outcome ≡ outcomes.Found journey → length journey.rides ≡ length other.rides + 1 → IsRight seen base query side before after (record end { outcome = outcomes.Found other }) → ⊥

-- where a journey is right, it is wrong that there is none
abbrev pub NotNone : {X : Type 0} → (X → LinkSeen) → Type 0
NotNone {X} seen =
    (side : Side) (base : BaseParts) (query : Query) (before after : X) (end : FewestEnd) (journey : Journey) → IsRight seen base query side before after end
    → end.outcome ≡ outcomes.Found journey → IsRight seen base query side before after (record end { outcome = outcomes.NoJourney }) → ⊥

-- with an answer no exchange more is counted
abbrev pub NotOneExchangeMore : {X : Type 0} → (X → LinkSeen) → Type 0
NotOneExchangeMore {X} seen =
    (side : Side) (base : BaseParts) (query : Query) (before after : X) (end : FewestEnd) (answer : Option Journey) → IsRight seen base query side before after end
    → end.outcome ≡ answered answer → IsRight seen base query side before after (record end { exchanges = end.exchanges + 1 }) → ⊥

-- over a quiet link no other version is named than the one that the known moment means at its side
abbrev pub NotAnotherVersion : {X : Type 0} → (X → LinkSeen) → Type 0
NotAnotherVersion {X} seen =
    (side : Side) (base : BaseParts) (query : Query) (before after : X) (end : FewestEnd) (version : ℕ) → IsQuietWith (seen before) base side → version ≢ version_at side query.known
    → IsRight seen base query side before after (record end { version = Some version }) → ⊥
