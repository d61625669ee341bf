-- The calls that a key has by the news.
use Rattle.std.specs.Prelude.{◌≡◌, List, Option, Some, None}
use Rattle.std.specs.List.{Any, Contains}
use Rattle.lc_model.specs.declared.call.Call.{Call}
use Rattle.lc_model.specs.declared.key.RunKey.{RunKey}
use Rattle.lc_model.specs.declared.run.Run.{Run}
use Rattle.lc_model.specs.declared.stop.Stop.{Stop}
use Rattle.lc_model.specs.Versions.News.{TripSaid}
use Rattle.version_store.specs.IndexLaws.Held.{IsRunBy}
use Rattle.version_store.specs.Further.{IsFurther, calls_of}

-- the run has the key, or none of the runs has it
abbrev pub IsRunOfKey : List Run → RunKey → Option Run → Type 0
IsRunOfKey runs key None = Any (λ (r : Run). r.key ≡ key) runs → ⊥
IsRunOfKey runs key (Some run) = Contains runs run × (run.key ≡ key)

-- news that are there make a run with these calls, or none
abbrev pub AreFurtherCalls : List Stop → Option TripSaid → Option (List Call) → Type 0
AreFurtherCalls stops None calls = calls ≡ None
AreFurtherCalls stops (Some news) calls = (made : Option Run) × IsFurther stops news made × (calls ≡ calls_of made)

-- a run of this key with these calls
abbrev pub run_with : RunKey → List Call → Run
run_with key calls = record { key = key; calls = calls }

-- by the news the run of the key has these calls, or there is no run of it
abbrev pub AreCallsBy : List Run → List Stop → List TripSaid → RunKey → Option (List Call) → Type 0
AreCallsBy runs stops list key None = (calls : List Call) → IsRunBy runs stops list (run_with key calls) → ⊥
AreCallsBy runs stops list key (Some calls) = IsRunBy runs stops list (run_with key calls)
