-- The places of calls in the order of their stops.
use Rattle.std.specs.Prelude.{◌≡◌, ◌<◌, ℕ, Bool, List, length, slice_index_or}
use Rattle.std.specs.List.{All, Any}
use Rattle.std.specs.List.Sorted.{IsSorted}
use Rattle.std.specs.Ordering.{is_lt, nat_cmp, on, then_cmp}
use Rattle.std.specs.declared.cmp.Ordering.{Ordering}
use Rattle.lc_model.specs.Text.{id_cmp}
use Rattle.lc_model.specs.declared.call.Call.{Call}
use Rattle.live_calls.specs.declared.naming.StopPlace.{StopPlace}

-- by the stop, then by the place
abbrev pub place_cmp : StopPlace → StopPlace → Ordering
place_cmp = then_cmp (on (λ p. p.stop.now) id_cmp) (on (λ p. p.place) nat_cmp)

-- the one comes before the other
abbrev pub is_before : StopPlace → StopPlace → Bool
is_before p q = is_lt (place_cmp p q)

-- a call is at the place, and the stop is its
abbrev pub IsOfCall : List Call → StopPlace → Type 0
IsOfCall calls p = (p.place < length calls) × ((d : Call) → p.stop.now ≡ (slice_index_or calls p.place d).stop)

-- places of calls, among them those of the first so many
pub record ArePlaces (calls : List Call) (count : ℕ) (places : List StopPlace) : Type 0 where
  pub each : (k : ℕ) → k < count → Any (λ p. p.place ≡ k) places
  pub only : All (IsOfCall calls) places

-- the places of all calls, sorted
pub record AreSortedPlaces (calls : List Call) (places : List StopPlace) : Type 0 where
  pub of_calls : ArePlaces calls (length calls) places
  pub sorted : IsSorted place_cmp places
