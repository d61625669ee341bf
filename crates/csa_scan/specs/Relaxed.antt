-- What an arrival makes ready, by the changes from its stop.
use Rattle.std.specs.Prelude.{◌≡◌, ℕ, ◌+◌, ◌<◌, ◌≤◌, ◌⊎◌, List, Option, Some, length}
use Rattle.std.specs.List.{slice_get}
use Rattle.lc_model.specs.Change.{InChangeOrder, changes_from}
use Rattle.lc_model.specs.declared.change.Change.{Change}
use Rattle.lc_model.specs.declared.doc.StopsDoc.{StopsDoc}
use Rattle.lc_model.specs.declared.stop.Stop.{Stop}
use Rattle.csa_scan.specs.Reach.{id_at}
use Rattle.csa_scan.specs.declared.trace.Ready.{Ready}

-- after the arrival, each stop with one of the changes is ready when the change is made, or earlier, and no other stop
-- became ready
pub record IsRelaxed (stops : List Stop) (changes : List Change) (after arr : ℕ) (old new : List (Option Ready)) : Type 0 where
  pub same_stops : length new ≡ length old
  pub sound : (stop : ℕ) (r : Ready) → slice_get new stop ≡ Some (Some r) →
      (slice_get old stop ≡ Some (Some r)) ⊎
      ((k : ℕ) × (c : Change) × (slice_get changes k ≡ Some c) × (id_at stops stop ≡ c.to) × (r.after ≡ after) × (r.at ≡ arr + c.seconds))
  pub no_later : (stop : ℕ) (r : Ready) → slice_get old stop ≡ Some (Some r) → (s : Ready) × (slice_get new stop ≡ Some (Some s)) × (s.at ≤ r.at)
  pub complete : (k : ℕ) (c : Change) → slice_get changes k ≡ Some c → (stop : ℕ) → stop < length stops → id_at stops stop ≡ c.to →
      (s : Ready) × (slice_get new stop ≡ Some (Some s)) × (s.at ≤ arr + c.seconds)

-- the stop of this id is ready at the second, or earlier, and no other changed
pub record Improves (stops : List Stop) (to : List ℕ) (at after : ℕ) (old new : List (Option Ready)) : Type 0 where
  pub same_stops : length new ≡ length old
  pub sound : (stop : ℕ) (r : Ready) → slice_get new stop ≡ Some (Some r) →
      (slice_get old stop ≡ Some (Some r)) ⊎ ((id_at stops stop ≡ to) × (r.after ≡ after) × (r.at ≡ at))
  pub no_later : (stop : ℕ) (r : Ready) → slice_get old stop ≡ Some (Some r) → (s : Ready) × (slice_get new stop ≡ Some (Some s)) × (s.at ≤ r.at)
  pub complete : (stop : ℕ) → stop < length stops → id_at stops stop ≡ to → (s : Ready) × (slice_get new stop ≡ Some (Some s)) × (s.at ≤ at)

-- after the arrival at the stop, the stops that it changes to are ready
pub record Relaxes (doc : StopsDoc) (stop arr after : ℕ) (old new : List (Option Ready)) : Type 0 where
  pub in_order : InChangeOrder doc.changes
  pub relaxed : IsRelaxed doc.stops (changes_from doc.changes (id_at doc.stops stop)) after arr old new
