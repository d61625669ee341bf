-- What changes from one list of news to the next one: the keys that end, and the runs that begin.
use Rattle.std.specs.Prelude.{◌≡◌, ◌⊎◌, ◌↔◌, ◌∷◌, ◌++◌, List, [], Option, Some, None, if◌then◌else◌}
use Rattle.std.specs.BTreeMap.{BTreeMap, get}
use Rattle.std.specs.BTreeSet.{BTreeSet}
use Rattle.std.specs.List.{Contains}
use Rattle.std.specs.Option.{ForSome}
use Rattle.std.specs.Ordering.{is_eq}
use Rattle.lc_model.specs.Call.{GoesForward}
use Rattle.lc_model.specs.RunKey.{key_cmp}
use Rattle.lc_model.specs.declared.call.Call.{Call}
use Rattle.lc_model.specs.declared.key.RunKey.{RunKey}
use Rattle.lc_model.specs.declared.run.Run.{Run}
use Rattle.lc_model.specs.declared.stop.Stop.{Stop}
use Rattle.lc_model.specs.Versions.News.{EntitySaid, TripSaid}
use Rattle.version_store.specs.IndexLaws.Held.{IsRunBy}
use Rattle.version_store.specs.IndexLaws.Kept.{news_in}
use Rattle.version_store.specs.IndexLaws.Touched.{AreChanges}
use Rattle.version_store.specs.Index.Spans.{Indexed}
use Rattle.version_store.specs.Index.Updates.{IsUpdated}
use Rattle.version_store.specs.CallsBy.{AreCallsBy, run_with}
use Rattle.version_store.specs.Differing.{AreAlikeAt}
use Rattle.version_store.specs.Force.{AreInForce}
use Rattle.version_store.specs.Further.{GoForward}
use Rattle.version_store.specs.TouchedKeys.{Has}
use Rattle.version_store.specs.declared.changes.Changes.{Changes}
use Rattle.version_store.specs.declared.force.Force.{Force}
use Rattle.version_store.specs.declared.store.Admission.{Admission}

-- the key ends, if it had a run
abbrev pub PutsEnded : RunKey → Option (List Call) → List RunKey → List RunKey → Type 0
PutsEnded key None old new = new ≡ old
PutsEnded key (Some was) old new = new ≡ old ++ key ∷ []

-- the map has the calls at the key, and what it had at all others
abbrev pub PutsCalls : RunKey → List Call → BTreeMap RunKey (List Call) → BTreeMap RunKey (List Call) → Type 0
PutsCalls key calls old new = (other : RunKey) → get key_cmp new other ≡ (if is_eq (key_cmp key other) then Some calls else get key_cmp old other)

-- the run of the key begins with the calls, or it had them
abbrev pub PutsBegun : RunKey → Option (List Call) → List Call → BTreeMap RunKey (List Call) → BTreeMap RunKey (List Call) → Type 0
PutsBegun key was calls old new = ((was ≡ Some calls) × (new ≡ old)) ⊎ PutsCalls key calls old new

-- a key that has no run ends, and the run of one that has others than it had begins
abbrev pub PutsChange : RunKey → Option (List Call) → Option (List Call) → Changes → Changes → Type 0
PutsChange key was None old new = PutsEnded key was old.ended.items new.ended.items × (new.begun ≡ old.begun)
PutsChange key was (Some calls) old new = (new.ended.items ≡ old.ended.items) × PutsBegun key was calls old.begun new.begun

-- the calls of a key by the news of before and after, and what changes by them
pub record TurnsKey (runs : List Run) (stops : List Stop) (before after : List TripSaid) (key : RunKey) (old new : Changes) : Type 0 where
  pub was : Option (List Call)
  pub is_now : Option (List Call)
  pub by_before : AreCallsBy runs stops before key was
  pub by_after : AreCallsBy runs stops after key is_now
  pub forward : ForSome is_now GoesForward
  pub puts : PutsChange key was is_now old new

-- a run by the news of after begins, or was there before
abbrev pub Stands : List Run → List Stop → List TripSaid → List TripSaid → BTreeMap RunKey (List Call) → Run → Type 0
Stands runs stops before after begun run = IsRunBy runs stops after run → (get key_cmp begun run.key ≡ Some run.calls) ⊎ IsRunBy runs stops before run

-- the key of a run by the news of before ends, or it has a run after
abbrev pub Leaves : List Run → List Stop → List TripSaid → List TripSaid → List RunKey → Run → Type 0
Leaves runs stops before after ended run =
    IsRunBy runs stops before run → Contains ended run.key ⊎ ((other : Run) × (other.key ≡ run.key) × IsRunBy runs stops after other)

-- No key ends that has a run after, and each run that begins is there after. Of the keys of the set the changes have all, but for those that are left.
pub record AreChangesAt (runs : List Run) (stops : List Stop) (before after : List TripSaid) (keys : BTreeSet RunKey) (left : List RunKey) (changes : Changes) : Type 0 where
  pub begins : (key : RunKey) (calls : List Call) → get key_cmp changes.begun key ≡ Some calls → IsRunBy runs stops after (run_with key calls)
  pub forward : GoForward changes.begun
  pub ends : (run : Run) → Contains changes.ended.items run.key → IsRunBy runs stops after run → ⊥
  pub all : (run : Run) → Has keys run.key → Contains left run.key ⊎ Stands runs stops before after changes.begun run
  pub gone : (run : Run) → Has keys run.key → Contains left run.key ⊎ Leaves runs stops before after changes.ended.items run

-- at each key of the set the lists are alike
abbrev pub AreNearAt : BTreeSet RunKey → List TripSaid → List TripSaid → Type 0
AreNearAt keys near list = (key : RunKey) → Contains keys.keys key → AreAlikeAt key near list

-- these are the changes of all keys
pub record AreChangesBy (runs : List Run) (stops : List Stop) (before after : List TripSaid) (changes : Changes) : Type 0 where
  pub begins : (key : RunKey) (calls : List Call) → get key_cmp changes.begun key ≡ Some calls → IsRunBy runs stops after (run_with key calls)
  pub forward : GoForward changes.begun
  pub ends : (run : Run) → Contains changes.ended.items run.key → IsRunBy runs stops after run → ⊥
  pub all : (run : Run) → Stands runs stops before after changes.begun run
  pub gone : (run : Run) → Leaves runs stops before after changes.ended.items run

-- the index is updated by the changes
pub record IsUpdatedBy (changes : Changes) (before after : Indexed) : Type 0 where
  pub begun : List Run
  pub exactly : (run : Run) → Contains begun run ↔ (get key_cmp changes.begun run.key ≡ Some run.calls)
  pub updated : IsUpdated changes.ended.items begun before after

-- the index is updated by what changes from the old news to the new
pub record HasTurned (runs : List Run) (stops : List Stop) (old new : List TripSaid) (before after : Indexed) : Type 0 where
  pub ended : List RunKey
  pub begun : List Run
  pub changes : AreChanges runs stops old new ended begun
  pub updated : IsUpdated ended begun before after

-- The index is updated by what a message changes of what is in force, and what is in force after it is at its places.
pub record GoesOn (runs : List Run) (stops : List Stop) (admitted : List Admission) (entities later : List EntitySaid) (places : Force) (before after : Indexed) : Type 0 where
  pub turned : HasTurned runs stops (news_in entities) (news_in later) before after
  pub force : AreInForce admitted places later
