-- How a client of `plan` ends best by publishers of the small feed's timetable, and how it does not. Statements near the headline of `plan` are
-- not the headline.
use Rattle.std.specs.Prelude.{◌≡◌, ◌≢◌, ℕ, List, ◌∷◌}
use Rattle.std.specs.List.{All}
use Rattle.cli_ask.specs.Publishing.{side_with, store_of}
use Rattle.cli_ask.specs.declared.end.ClientEnd.{ClientEnd}
use Rattle.cli_words.specs.declared.command.Publishing.{Publishing}
use Rattle.convoy.specs.Agreement.Names.{Round}
use Rattle.cli_replay.specs.PlanLaws.Worked.{received}
use Rattle.lc_model.specs.declared.answer.Answer.{Answer}
use Rattle.lc_model.specs.declared.query.Query.{Query}
use Rattle.lc_model.specs.declared.versions.update.Update.{Update}
use Rattle.page_client.specs.declared.want.Want.{Want}
use Rattle.page_client.specs.declared.want.Want.TheVariants as wants
use Rattle.lc_world.specs.Sides.Side.{Side, with_message}
use Rattle.timetable.specs.Tiny.{IsTiny}
use Rattle.timetable.specs.declared.timetable.Timetable.{Timetable}
use Rattle.lc_cli.specs.Headline.{EndsBestAt}
use Rattle.lc_cli.specs.NearHeadline.{end_of}
use Rattle.lc_cli.specs.Tiny.{from_a_to_d}

-- the side of a publisher of a timetable to which no message was admitted
abbrev pub bare_side : Timetable → Publishing → Side
bare_side made publishing = side_with made publishing (store_of made publishing.base_moment)

-- the client ended best, by these turns at a publisher of the small feed's timetable, to which no message was admitted
abbrev pub PlansBestTiny : Publishing → List Round → Query → ClientEnd → Type 0
PlansBestTiny publishing rounds query end =
    (made : Timetable) × (sides : List Side) × IsTiny made × All (λ (side : Side). side ≡ bare_side made publishing) sides
    × EndsBestAt rounds sides (bare_side made publishing) query end

-- with this answer the client ends best, however the timetable is published and whatever turns follow the one at the time gate
abbrev pub IsBestPlan : Query → Answer → Type 0
IsBestPlan query answer =
    (publishing : Publishing) (rounds : List Round) → PlansBestTiny publishing (received wants.Gate ∷ rounds) query (end_of publishing.base_moment answer)

-- with this answer it does not end best, however the timetable is published, at whichever version and by whatever turns
abbrev pub IsNoBestPlan : Query → Answer → Type 0
IsNoBestPlan query answer = (publishing : Publishing) (version : ℕ) (rounds : List Round) → ¬ PlansBestTiny publishing rounds query (end_of version answer)

-- it ends best at the one version that there is, whatever the answer and the turns
abbrev pub PlanAtOneVersion : Query → Type 0
PlanAtOneVersion query =
    (publishing : Publishing) (version : ℕ) (answer : Answer) (rounds : List Round) → PlansBestTiny publishing rounds query (end_of version answer) → version ≡ publishing.base_moment

-- none of these turns begins with the reply of the time gate
abbrev pub AreAfterGate : List Round → Type 0
AreAfterGate rounds = All (λ (round : Round). (more : List Want) → round.given ≢ wants.Gate ∷ more) rounds

-- The client ended best at a publisher that admits one message while it plans. The reply of the time gate came at the first of these sides.
abbrev pub PlansBestAsItGrows : Timetable → Publishing → Update → ℕ → List Round → List Side → ClientEnd → Type 0
PlansBestAsItGrows made publishing update bytes rounds sides end =
    EndsBestAt (received wants.Gate ∷ rounds) sides (with_message (bare_side made publishing) update bytes) from_a_to_d end

-- Whose time gate replied before the message came ends at the base: the version of the message, which others have by then, is refused.
abbrev pub PlanBeforeTheMessage : Type 0
PlanBeforeTheMessage =
    (made : Timetable) (publishing : Publishing) (update : Update) (bytes version : ℕ) (answer : Answer) (rounds : List Round) (sides : List Side) → AreAfterGate rounds
    → PlansBestAsItGrows made publishing update bytes rounds (bare_side made publishing ∷ sides) (end_of version answer) → version ≡ publishing.base_moment

-- Whose time gate replied after that ends at the version of the message: the base is refused.
abbrev pub PlanAfterTheMessage : Type 0
PlanAfterTheMessage =
    (made : Timetable) (publishing : Publishing) (update : Update) (bytes version : ℕ) (answer : Answer) (rounds : List Round) (sides : List Side) → AreAfterGate rounds
    → PlansBestAsItGrows made publishing update bytes rounds (with_message (bare_side made publishing) update bytes ∷ sides) (end_of version answer) → version ≡ update.moment

-- Who was never answered by the time gate has not ended best.
abbrev pub NotWithoutGate : Type 0
NotWithoutGate = (rounds : List Round) (sides : List Side) (last : Side) (query : Query) (end : ClientEnd) → AreAfterGate rounds → ¬ EndsBestAt rounds sides last query end
