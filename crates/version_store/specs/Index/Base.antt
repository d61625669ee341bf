-- The states of runs that hold from version 0 on, and their numbers.
use Rattle.std.specs.Prelude.{◌≡◌, ℕ, ◌↔◌, List, Option, Some, None}
use Rattle.std.specs.BTreeMap.{BTreeMap, get}
use Rattle.std.specs.List.{Contains, slice_get}
use Rattle.std.specs.Ordering.{on}
use Rattle.lc_model.specs.Order.{IsStrict}
use Rattle.lc_model.specs.RunKey.{key_cmp}
use Rattle.lc_model.specs.declared.key.RunKey.{RunKey}
use Rattle.lc_model.specs.declared.run.Run.{Run}
use Rattle.version_store.specs.declared.index.state.State.{State}

-- the run from version 0 on
abbrev pub base_state : Run → State
base_state run = record { key = run.key; calls = run.calls; begin = 0; end = None }

-- the states are strictly in the order of their keys
abbrev pub AreKeysInOrder : List State → Type 0
AreKeysInOrder states = IsStrict (on (λ (s : State). s.key) key_cmp) states

-- the state of this number has the key
pub record IsNumbered (states : List State) (key : RunKey) (number : ℕ) : Type 0 where
  pub state : State
  pub is : slice_get states number ≡ Some state
  pub same_key : state.key ≡ key

-- the list has exactly the number of each state with its key
pub record HasNumbers (states : List State) (numbers : List (RunKey × Option ℕ)) : Type 0 where
  pub exactly : (key : RunKey) (number : ℕ) → Contains numbers (key, Some number) ↔ IsNumbered states key number
  pub none_lacks : (key : RunKey) → Contains numbers (key, None) → ⊥

-- the map has exactly the number of each state at its key
abbrev pub AreNumbered : List State → BTreeMap RunKey (Option ℕ) → Type 0
AreNumbered states numbers = (key : RunKey) (number : ℕ) → (get key_cmp numbers key ≡ Some (Some number)) ↔ IsNumbered states key number
