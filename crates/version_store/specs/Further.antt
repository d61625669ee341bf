-- The further runs, as a map has their calls by their keys.
use Rattle.std.specs.Prelude.{◌≡◌, ◌⊎◌, ◌↔◌, List, true, false, Option, Some, None, option_map, if◌then◌else◌}
use Rattle.std.specs.BTreeMap.{BTreeMap, get}
use Rattle.std.specs.Ordering.{is_eq}
use Rattle.lc_model.specs.Call.{GoesForward}
use Rattle.lc_model.specs.RunKey.{key_cmp}
use Rattle.lc_model.specs.declared.call.Call.{Call}
use Rattle.lc_model.specs.declared.key.RunKey.{RunKey}
use Rattle.lc_model.specs.declared.run.Run.{Run}
use Rattle.lc_model.specs.declared.stop.Stop.{Stop}
use Rattle.lc_model.specs.Versions.Added.{IsFurtherRun, has_key}
use Rattle.lc_model.specs.Versions.Naming.{is_added}
use Rattle.lc_model.specs.Versions.News.{TripSaid}
use Rattle.lc_model.specs.Versions.Timetable.{IsLiveRun}
use Rattle.live_calls.specs.AddedRun.{HasNoKey, IsAdded, IsAddedRun}

-- the run that news make, or none where they are of no added trip or make none
abbrev pub IsFurther : List Stop → TripSaid → Option Run → Type 0
IsFurther stops news None = (is_added news.kind ≡ false) ⊎ IsAdded stops news None
IsFurther stops news (Some run) = (is_added news.kind ≡ true) × IsAddedRun stops news run

-- the calls of a run, if there is one
abbrev pub calls_of : Option Run → Option (List Call)
calls_of run = option_map (λ (r : Run). r.calls) run

-- the map has at the key of the news the calls of the run that they make, and nothing where they make none
pub record PutsAtKey (stops : List Stop) (news : TripSaid) (old new : BTreeMap RunKey (List Call)) : Type 0 where
  pub key : RunKey
  pub of_news : has_key key news ≡ true
  pub run : Option Run
  pub made : IsFurther stops news run
  pub at : (other : RunKey) → get key_cmp new other ≡ (if is_eq (key_cmp key other) then calls_of run else get key_cmp old other)

-- the map has the run that news make in the place of that of their key; nothing changed where they have no key
abbrev pub PutsFurther : List Stop → TripSaid → BTreeMap RunKey (List Call) → BTreeMap RunKey (List Call) → Type 0
PutsFurther stops news old new = PutsAtKey stops news old new ⊎ (HasNoKey news × ((key : RunKey) → get key_cmp new key ≡ get key_cmp old key))

-- the map has exactly the calls of the runs that are so
abbrev pub HasExactly : BTreeMap RunKey (List Call) → (Run → Type 0) → Type 0
HasExactly live IsSo = (run : Run) → (get key_cmp live run.key ≡ Some run.calls) ↔ IsSo run

-- the calls that the map has go forward
abbrev pub GoForward : BTreeMap RunKey (List Call) → Type 0
GoForward live = (key : RunKey) (calls : List Call) → get key_cmp live key ≡ Some calls → GoesForward calls

-- the run is one of these of the timetable with its live calls, or a further one
abbrev pub IsOfEither : List Run → List Stop → List TripSaid → Run → Type 0
IsOfEither runs stops list run = IsLiveRun runs list run ⊎ IsFurtherRun runs stops list run
