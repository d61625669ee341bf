-- Worked values: the spots of two trips and of a run that does not take place, and entities that go in at once.
use Rattle.std.specs.Prelude.{◌≡◌, ℕ, List, [], ◌∷◌, codes, true, false, ◌==◌, not, Some, None}
use Rattle.lc_model.specs.declared.call.Call.{Call}
use Rattle.lc_model.specs.declared.key.RunKey.{RunKey}
use Rattle.lc_model.specs.declared.run.Run.{Run}
use Rattle.lc_model.specs.Versions.News.{TripSaid}
use Rattle.lc_model.specs.Versions.Worked.{entity, t1}
use Rattle.version_store.specs.IndexLaws.Kept.{has_id, last_of_ids}
use Rattle.version_store.specs.IndexLaws.Walk.{Spot, connection_at, held_from, spots_of}

-- a run with these calls
abbrev pub run_with : RunKey → List Call → Run
run_with key calls = record { key = key; calls = calls }

-- the trip T1 of three calls, a run that does not take place, and T1 again
abbrev pub three_runs : RunKey → List Run
three_runs key = run_with key t1 ∷ run_with key [] ∷ run_with key t1 ∷ []

-- the connection that departs from this call of this run
abbrev pub spot : ℕ → ℕ → Spot
spot run call = record { run = run; call = call }

-- Each of the two trips has two spots, and the run without calls none. At the last call no connection departs, nor of a run that is not there. Where
-- the first run does not hold the two others do.
pub record WorkedSpots (key : RunKey) : Type 0 where
  pub spots : spots_of 0 (three_runs key) ≡ spot 0 0 ∷ spot 0 1 ∷ spot 2 0 ∷ spot 2 1 ∷ []
  pub at_the_last : connection_at (three_runs key) (spot 0 2) ≡ None
  pub of_no_run : connection_at (three_runs key) (spot 3 0) ≡ None
  pub held : held_from (λ number. not (number == 0)) 0 (three_runs key) ≡ run_with key [] ∷ run_with key t1 ∷ []

-- Of the entities 1, 2, 1 and 3 the last ones are 2, 1 and 3, in this order; no entity has the id 4.
pub record WorkedIds (first second third : TripSaid) : Type 0 where
  pub last :
      last_of_ids (entity (codes "1") (Some first) ∷ entity (codes "2") (Some second) ∷ entity (codes "1") None ∷ entity (codes "3") (Some third) ∷ [])
      ≡ entity (codes "2") (Some second) ∷ entity (codes "1") None ∷ entity (codes "3") (Some third) ∷ []
  pub there : has_id (codes "2") (entity (codes "1") None ∷ entity (codes "2") None ∷ []) ≡ true
  pub not_there : has_id (codes "4") (entity (codes "1") None ∷ entity (codes "2") None ∷ []) ≡ false
