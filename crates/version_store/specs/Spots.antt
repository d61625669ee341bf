-- Entities by where they are among the messages of a store.
use Rattle.std.specs.Prelude.{◌≡◌, ℕ, List, All, Option, Some, option_map, option_and_then}
use Rattle.std.specs.List.{slice_get}
use Rattle.lc_model.specs.Versions.History.{filled}
use Rattle.lc_model.specs.Versions.News.{EntitySaid}
use Rattle.version_store.specs.Kept.{entity_said}
use Rattle.version_store.specs.declared.kept.Marked.{Marked}
use Rattle.version_store.specs.declared.spots.Spot.{Spot}
use Rattle.version_store.specs.declared.store.Admission.{Admission}

-- the entity at a spot of these messages, if there is one
abbrev pub said_in : List Admission → Spot → Option EntitySaid
said_in admitted spot = option_and_then (λ (a : Admission). option_map (filled spot.date) (slice_get a.update.entities spot.entity)) (slice_get admitted spot.message)

-- the entity is at its spot
abbrev pub IsAtSpot : List Admission → Marked → Type 0
IsAtSpot admitted marked = said_in admitted marked.spot ≡ Some (entity_said marked)

-- where the entities of before are at their spots, those of after are too, by the entities of the message of this number
abbrev pub StayAt : ℕ → List EntitySaid → List Marked → List Marked → Type 0
StayAt message entities old new =
    (admitted : List Admission) (a : Admission) → slice_get admitted message ≡ Some a → a.update.entities ≡ entities → All (IsAtSpot admitted) old
    → All (IsAtSpot admitted) new
