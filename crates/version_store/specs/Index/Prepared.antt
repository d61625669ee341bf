-- What an update needs before runs end and begin, and what is stored while it is prepared and after each of its turns.
use Rattle.std.specs.Prelude.{◌≡◌, ℕ, ◌<◌, ◌⊎◌, ◌↔◌, List, [], ◌∷◌, ◌++◌, Option, Some, IsSome, cond}
use Rattle.std.specs.List.{Contains, slice_get, slice_set}
use Rattle.std.specs.Ordering.{is_eq}
use Rattle.lc_model.specs.RunKey.{key_cmp}
use Rattle.lc_model.specs.declared.key.RunKey.{RunKey}
use Rattle.lc_model.specs.declared.run.Run.{Run}
use Rattle.version_store.specs.Index.Gathered.{IsOf}
use Rattle.version_store.specs.Index.Inside.{AreKept}
use Rattle.version_store.specs.Index.Spans.{held}
use Rattle.version_store.specs.Index.Turns.{closed_state, ended}
use Rattle.version_store.specs.Index.Updates.{NoneHas}
use Rattle.version_store.specs.declared.index.place.Place.{Place}
use Rattle.version_store.specs.declared.index.prepare.Ready.{Ready}
use Rattle.version_store.specs.declared.index.state.State.{State}

-- what is found at the keys of runs
abbrev pub Found : Type 0
Found = RunKey → Option (Option ℕ)

-- all places of a state with this number are there
abbrev pub HasPlaces : ℕ → State → List Place → Type 0
HasPlaces number state places = (p : Place) → IsOf number state p → Contains places p

-- The run is ready to begin: its state is at the number and holds in no version. Its places are there, and so is its key.
pub record IsReady (states : List State) (places : List Place) (found : Found) (ready : Ready) (run : Run) : Type 0 where
  pub stands : slice_get states ready.number ≡ Some (closed_state run)
  pub same_key : ready.key ≡ run.key
  pub has_key : IsSome (found run.key)
  pub has : HasPlaces ready.number (closed_state run) places

-- what was stored is stored, each version has the runs that it had, and what was ready is
pub record Carries (states : List State) (places : List Place) (found : Found) (new_states : List State) (new_places : List Place) (new_found : Found) : Type 0 where
  pub kept : (newest : ℕ) → AreKept newest states places found → AreKept newest new_states new_places new_found
  pub same : (version : ℕ) → held version new_states ≡ held version states
  pub ready : (r : Ready) (run : Run) → IsReady states places found r run → IsReady new_states new_places new_found r run

-- the state of a run was added with its places, perhaps not all of them, or nothing was
pub record PutsState (number : ℕ) (run : Run) (states : List State) (places : List Place) (new_states : List State) (new_places : List Place) : Type 0 where
  pub pushed : ((new_states ≡ states) × (new_places ≡ places)) ⊎ (new_states ≡ states ++ closed_state run ∷ [])
  pub stay : (p : Place) → Contains places p → Contains new_places p
  pub only : (p : Place) → Contains new_places p → Contains places p ⊎ IsOf number (closed_state run) p

-- the state whose number is found at the key ends; where none is, nothing changes
pub record EndsState (next : ℕ) (key : RunKey) (found : Found) (states new : List State) : Type 0 where
  pub one : (n : ℕ) (s : State) → found key ≡ Some (Some n) → slice_get states n ≡ Some s → new ≡ slice_set states n (ended next s)
  pub none : ((n : ℕ) → found key ≡ Some (Some n) → ⊥) → new ≡ states

-- what is found once a value was put at a key
abbrev pub put_at : RunKey → Option ℕ → Found → Found
put_at key value found q = cond (is_eq (key_cmp key q)) (Some value) (found q)

-- the two have the same numbers
abbrev pub HaveAlike : Found → Found → Type 0
HaveAlike found new = (q : RunKey) (n : ℕ) → (new q ≡ Some (Some n)) ↔ (found q ≡ Some (Some n))

-- what has a key has it still
abbrev pub KeepKeys : Found → Found → Type 0
KeepKeys found new = (q : RunKey) → IsSome (found q) → IsSome (new q)

-- the run of the key has ended in the version that is being made. The other versions and the other runs stay, and so does what is ready
pub record EndsRun (next : ℕ) (key : RunKey) (states : List State) (places : List Place) (found : Found) (new_states : List State) (new_places : List Place) (new_found : Found) : Type 0 where
  pub kept : AreKept next new_states new_places new_found
  pub before : (version : ℕ) → version < next → held version new_states ≡ held version states
  pub now : (run : Run) → Contains (held next new_states) run ↔ (Contains (held next states) run × (run.key ≡ key → ⊥))
  pub ready : (r : Ready) (run : Run) → IsReady states places found r run → IsReady new_states new_places new_found r run

-- the run has begun in the version that is being made, in the place of the one of its key
pub record BeginsRun (next : ℕ) (begun : Run) (states : List State) (places : List Place) (found : Found) (new_states : List State) (new_places : List Place) (new_found : Found) : Type 0 where
  pub kept : AreKept next new_states new_places new_found
  pub before : (version : ℕ) → version < next → held version new_states ≡ held version states
  pub now : (run : Run) → Contains (held next new_states) run ↔ ((begun ≡ run) ⊎ (Contains (held next states) run × (run.key ≡ begun.key → ⊥)))
  pub ready : (r : Ready) (run : Run) → IsReady states places found r run → (run.key ≡ begun.key → ⊥) → IsReady new_states new_places new_found r run

-- the runs of these keys have ended so
pub record EndsAll (next : ℕ) (keys : List RunKey) (states : List State) (places : List Place) (found : Found) (new_states : List State) (new_places : List Place) (new_found : Found) : Type 0 where
  pub kept : AreKept next new_states new_places new_found
  pub before : (version : ℕ) → version < next → held version new_states ≡ held version states
  pub now : (run : Run) → Contains (held next new_states) run ↔ (Contains (held next states) run × (Contains keys run.key → ⊥))
  pub ready : (r : Ready) (run : Run) → IsReady states places found r run → IsReady new_states new_places new_found r run

-- these runs have begun so
pub record BeginsAll (next : ℕ) (begun : List Run) (states : List State) (new_states : List State) (new_places : List Place) (new_found : Found) : Type 0 where
  pub kept : AreKept next new_states new_places new_found
  pub before : (version : ℕ) → version < next → held version new_states ≡ held version states
  pub now : (run : Run) → Contains (held next new_states) run ↔ (Contains begun run ⊎ (Contains (held next states) run × NoneHas begun run.key))
