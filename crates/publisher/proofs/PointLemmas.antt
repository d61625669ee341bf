-- The place of a moment among cuts, by how many of them are at or before it.
use Rattle.std.proofs.Common.{◌≡◌, ◌∙◌, ℕ, zero, suc, ◌-◌, ◌<◌, ◌≤◌, List, [], ◌∷◌, length, true, false, Option, Some, None, refl, sym, arith, inl, inr, add-one, get_or}
use Rattle.std.specs.Prelude.{nat_le, slice_get, slice_index}
use Rattle.std.specs.List.Sorted.{IsNonDecreasingBy, IsPartitionPoint, IsPartitionedBy}
use Rattle.std.proofs.lemmas.Bool.{cases_lt}
use Rattle.std.proofs.lemmas.List.Sorted.{IsPartitionedBy-leb}
use Rattle.publisher.specs.Place.{AreRising, cut_before, place_at, place_behind, place_of}
use Rattle.publisher.specs.declared.place.Place.{Place}
use Rattle.publisher.proofs.PlaceLemmas.{passed, stopped}

-- cuts that strictly increase never fall
never_fall : (cuts : List ℕ) → AreRising cuts → IsNonDecreasingBy (λ (cut : ℕ). cut) cuts
never_fall cuts rising i j d before inside = elim (cases_lt i j) [
  | inl less ↦ let below : get_or cuts i d < get_or cuts j d = rising i j d less inside in omega arith
  | inr no_less ↦ let same : i ≡ j = omega arith in rw same (omega arith)
]

-- those at or before a moment come first
pub parted : (cuts : List ℕ) (moment : ℕ) → AreRising cuts → IsPartitionedBy (λ (cut : ℕ). nat_le cut moment) cuts
parted cuts moment rising = IsPartitionedBy-leb (λ (cut : ℕ). cut) cuts moment (never_fall cuts rising)

-- this many cuts are at or before the moment, and none of the others
abbrev pub IsPoint : List ℕ → ℕ → ℕ → Type 0
IsPoint cuts moment count = IsPartitionPoint (λ (cut : ℕ). nat_le cut moment ≡ true) (λ (cut : ℕ). nat_le cut moment ≡ false) cuts count

point_behind : (cut : ℕ) (cuts : List ℕ) (moment count : ℕ) → IsPoint (cut ∷ cuts) moment (suc count) → IsPoint cuts moment count
point_behind cut cuts moment count point = (λ k d low high. point.0 (suc k) d (omega arith) (omega arith), λ k d low high. point.1 (suc k) d (omega arith) (omega arith))

none_behind : (cut : ℕ) (cuts : List ℕ) (moment : ℕ) → IsPoint (cut ∷ cuts) moment zero → IsPoint cuts moment zero
none_behind cut cuts moment point = (λ k d low high. absurd (omega arith), λ k d low high. point.1 (suc k) d (omega arith) (omega arith))

-- the cut at a place with its neighbours, where this one comes before the first
abbrev place_from : Option ℕ → List ℕ → ℕ → Place
place_from previous cuts zero = record { previous = previous; cut = slice_index cuts 0; next = slice_get cuts 1 }
place_from previous cuts (suc before) = record { previous = slice_get cuts before; cut = slice_index cuts (suc before); next = slice_get cuts (suc (suc before)) }

one_more : (previous : Option ℕ) (cut next : ℕ) (rest : List ℕ) (at : ℕ) → place_from (Some cut) (next ∷ rest) at ≡ place_from previous (cut ∷ next ∷ rest) (suc at)
one_more previous cut next rest zero = refl
one_more previous cut next rest (suc at) = refl

behind_at : (previous : Option ℕ) (cut : ℕ) (rest : List ℕ) (moment count : ℕ) → count ≤ length rest → IsPoint rest moment count
    → place_from previous (cut ∷ rest) count ≡ place_behind previous cut rest moment
behind_at previous cut [] moment zero within point = refl
behind_at previous cut [] moment (suc count) within point = absurd (omega arith)
behind_at previous cut (next ∷ rest) moment zero within point = sym (stopped previous cut next rest moment (point.1 0 0 (omega arith) (omega arith)))
behind_at previous cut (next ∷ rest) moment (suc count) within point =
    sym (one_more previous cut next rest count)
    ∙ behind_at (Some cut) next rest moment count (omega arith) (point_behind next rest moment count point)
    ∙ sym (passed previous cut next rest moment (point.0 0 0 (omega arith) (omega arith)))

at_from : (cuts : List ℕ) (at : ℕ) → place_at cuts at ≡ place_from None cuts at
at_from cuts zero = refl
at_from cuts (suc before) = rw (add-one (suc before)) refl

-- the place of the moment is that of the last of them, or the first place
pub place_at_point : (cuts : List ℕ) (moment count : ℕ) → count ≤ length cuts → IsPoint cuts moment count → place_at cuts (count - 1) ≡ place_of cuts moment
place_at_point [] moment zero within point = refl
place_at_point [] moment (suc count) within point = absurd (omega arith)
place_at_point (first ∷ rest) moment zero within point = at_from (first ∷ rest) 0 ∙ behind_at None first rest moment zero (omega arith) (none_behind first rest moment point)
place_at_point (first ∷ rest) moment (suc count) within point =
    let less : suc count - 1 ≡ count = omega arith in
    rw less (at_from (first ∷ rest) count ∙ behind_at None first rest moment count (omega arith) (point_behind first rest moment count point))

-- the cut before a place that is not the first one
pub before_at : (cuts : List ℕ) (at : ℕ) → (at ≡ 0 → ⊥) → slice_get cuts (at - 1) ≡ cut_before cuts at
before_at cuts zero other = absurd (other refl)
before_at cuts (suc before) other = let less : suc before - 1 ≡ before = omega arith in rw less refl
