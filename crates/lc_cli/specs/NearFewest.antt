-- What is near the end of a client of the fewest rides, and is none: a ride more or less, no journey, another version.
use Rattle.std.specs.Prelude.{◌≡◌, ◌≢◌, ◌+◌, ℕ, Some, length}
use Rattle.cli_ask.specs.declared.end.ClientEnd.{ClientEnd}
use Rattle.lc_model.specs.declared.journey.Journey.{Journey}
use Rattle.lc_model.specs.declared.query.Query.{Query}
use Rattle.page_client.specs.declared.outcome.Outcome.TheVariants as outcomes
use Rattle.lc_world.specs.Sides.Side.{Side}
use Rattle.lc_cli.specs.Headline.{version_meant}
use Rattle.lc_cli.specs.HeadlineOfFewest.{EndsFewest}

-- A journey with a ride more is refused, and `ask` may print such a one.
abbrev pub NotOneRideMore : Type 0
NotOneRideMore =
    (side : Side) (query : Query) (end : ClientEnd) (journey other : Journey) → EndsFewest side query end → end.outcome ≡ outcomes.Found journey
    → length other.rides ≡ length journey.rides + 1 → EndsFewest side query (record end { outcome = outcomes.Found other }) → ⊥

-- and one with a ride less
abbrev pub NotOneRideFewer : Type 0
NotOneRideFewer =
    (side : Side) (query : Query) (end : ClientEnd) (journey other : Journey) → EndsFewest side query end → end.outcome ≡ outcomes.Found journey
    → length journey.rides ≡ length other.rides + 1 → EndsFewest side query (record end { outcome = outcomes.Found other }) → ⊥

-- where a client ends with a journey, it is refused that there is none
abbrev pub NotNoJourney : Type 0
NotNoJourney =
    (side : Side) (query : Query) (end : ClientEnd) (journey : Journey) → EndsFewest side query end → end.outcome ≡ outcomes.Found journey
    → EndsFewest side query (record end { outcome = outcomes.NoJourney }) → ⊥

-- no other version is named than the one that the question means
abbrev pub NotAnotherVersion : Type 0
NotAnotherVersion =
    (side : Side) (query : Query) (end : ClientEnd) (version : ℕ) → version ≢ version_meant side query → EndsFewest side query (record end { version = Some version }) → ⊥
