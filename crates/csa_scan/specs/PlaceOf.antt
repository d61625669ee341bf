-- The place of a stop in a document.
use Rattle.std.specs.Prelude.{◌≡◌, ℕ, ◌<◌, List, length}
use Rattle.lc_model.specs.declared.stop.Stop.{Stop}
use Rattle.csa_scan.specs.Reach.{id_at}

-- the stop of this id is there, and there alone
pub record IsPlaceOf (stops : List Stop) (id : List ℕ) (place : ℕ) : Type 0 where
  pub within : place < length stops
  pub is : id_at stops place ≡ id
  pub only : (other : ℕ) → other < length stops → id_at stops other ≡ id → other ≡ place

-- no stop has this id
abbrev pub LacksId : List Stop → List ℕ → Type 0
LacksId stops id = (place : ℕ) → place < length stops → id_at stops place ≡ id → ⊥
