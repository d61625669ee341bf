-- Where the visits of a trip are among visits that are sorted by trip.
use Rattle.std.specs.Prelude.{◌≡◌, ℕ, ◌<◌, ◌≤◌, Bool, true, false, List, length, option_map, unwrap_or}
use Rattle.std.specs.List.{slice_get}
use Rattle.std.specs.List.Sorted.{IsPartitionPoint}
use Rattle.std.specs.Ordering.{is_lt}
use Rattle.lc_model.specs.Change.{is_same_id}
use Rattle.lc_model.specs.Text.{id_cmp}
use Rattle.gtfs_tables.specs.declared.trips.visits.Visit.{Visit}

-- there is a visit at the place, and it is of the trip
abbrev pub is_visit_of : List Visit → List ℕ → ℕ → Bool
is_visit_of visits trip place = unwrap_or (option_map (λ (v : Visit). is_same_id v.trip trip) (slice_get visits place)) false

-- the visits before this place are of lesser trips, and no others
pub record BeginAt (visits : List Visit) (trip : List ℕ) (first : ℕ) : Type 0 where
  pub within : first ≤ length visits
  pub less : IsPartitionPoint (λ (v : Visit). is_lt (id_cmp v.trip trip) ≡ true) (λ (v : Visit). is_lt (id_cmp v.trip trip) ≡ false) visits first

-- from one place to another the visits are of the trip, and there they end
pub record EndAt (visits : List Visit) (trip : List ℕ) (first end : ℕ) : Type 0 where
  pub low : first ≤ end
  pub high : end ≤ length visits
  pub within : (place : ℕ) → first ≤ place → place < end → is_visit_of visits trip place ≡ true
  pub last : end < length visits → is_visit_of visits trip end ≡ false
