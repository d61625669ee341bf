-- What is near the end of a question for the latest departure, and is none. It is a journey that leaves earlier or later, no journey, another
-- version, an exchange more or less, or another order of the needed pages back.
use Rattle.std.specs.Prelude.{◌≡◌, ◌≢◌, ◌+◌, ◌<◌, ◌∷◌, ◌++◌, ℕ, List, Some}
use Rattle.back_scan.specs.Forward.{forward_query}
use Rattle.back_scan.specs.declared.arrive_query.ArriveQuery.{ArriveQuery}
use Rattle.cli_ask.specs.declared.end.ClientEnd.{ClientEnd}
use Rattle.back_client.specs.Ends.Latest.{NeededBackAt}
use Rattle.convoy.specs.ClientLaws.Stated.{version_at}
use Rattle.lc_model.specs.Journey.{leaves_at}
use Rattle.lc_model.specs.declared.journey.Journey.{Journey}
use Rattle.lc_model.specs.declared.page.PageName.{PageName}
use Rattle.page_client.specs.declared.outcome.Outcome.TheVariants as outcomes
use Rattle.lc_world.specs.Sides.Side.{Side}
use Rattle.lc_cli.specs.HeadlineOfArrive.{EndsLatest}

-- A journey that leaves earlier is refused, as the one where a client stops that takes the first journey it finds.
abbrev pub NotEarlier : Type 0
NotEarlier =
    (side : Side) (asked : ArriveQuery) (end : ClientEnd) (journey other : Journey) → EndsLatest side asked end → end.outcome ≡ outcomes.Found journey
    → leaves_at other < leaves_at journey → EndsLatest side asked (record end { outcome = outcomes.Found other }) → ⊥

-- and one that leaves later
abbrev pub NotLater : Type 0
NotLater =
    (side : Side) (asked : ArriveQuery) (end : ClientEnd) (journey other : Journey) → EndsLatest side asked end → end.outcome ≡ outcomes.Found journey
    → leaves_at journey < leaves_at other → EndsLatest side asked (record end { outcome = outcomes.Found other }) → ⊥

-- where a client ends with a journey, it is refused that there is none
abbrev pub NotNone : Type 0
NotNone =
    (side : Side) (asked : ArriveQuery) (end : ClientEnd) (journey : Journey) → EndsLatest side asked end → end.outcome ≡ outcomes.Found journey
    → EndsLatest side asked (record end { outcome = outcomes.NoJourney }) → ⊥

-- no other version is named than the one that the question means
abbrev pub NotVersion : Type 0
NotVersion =
    (side : Side) (asked : ArriveQuery) (end : ClientEnd) (version : ℕ) → version ≢ version_at side asked.known → EndsLatest side asked (record end { version = Some version }) → ⊥

-- an exchange more or less is not counted
abbrev pub NotOneExchangeMore : Type 0
NotOneExchangeMore =
    (side : Side) (asked : ArriveQuery) (end other : ClientEnd) → EndsLatest side asked end → other.exchanges ≡ end.exchanges + 1 → EndsLatest side asked other → ⊥

-- the needed pages back are not needed in another order, with two of them that follow each other the other way round
abbrev pub NotAnotherOrder : Type 0
NotAnotherOrder =
    (side : Side) (asked : ArriveQuery) (end : ClientEnd) (front rest : List PageName) (a b : PageName) → (ends : EndsLatest side asked end) → ends.pages ≡ front ++ a ∷ b ∷ rest
    → a ≢ b → NeededBackAt side (version_at side asked.known) (forward_query asked) (front ++ b ∷ a ∷ rest) → ⊥
