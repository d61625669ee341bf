-- What the fields of an index stand for, and what holds of them.
use Rattle.std.specs.Prelude.{◌≡◌, ℕ, ◌≤◌, ◌↔◌, List, Option, Some, true, All}
use Rattle.std.specs.BTreeMap.{get}
use Rattle.std.specs.List.{Contains, slice_get}
use Rattle.std.specs.Option.{ForSome}
use Rattle.std.specs.declared.cmp.Ordering.TheVariants.{Equal}
use Rattle.lc_model.specs.Call.{GoesForward}
use Rattle.lc_model.specs.RunKey.{key_cmp}
use Rattle.lc_model.specs.declared.connection.Connection.{Connection}
use Rattle.lc_model.specs.declared.key.RunKey.{RunKey}
use Rattle.version_store.specs.Index.Gathered.{IsOfStates}
use Rattle.version_store.specs.Index.Places.{shown}
use Rattle.version_store.specs.Index.Spans.{Indexed, holds}
use Rattle.version_store.specs.declared.index.index.Index.TheInside.{Inside}
use Rattle.version_store.specs.declared.index.place.Place.{Place}
use Rattle.version_store.specs.declared.index.state.State.{State}

-- the states, and the newest version
abbrev pub indexed_of : Inside → Indexed
indexed_of index = record { states = index.spans.states.items; newest = index.newest }

-- each place is that of a connection of a state, and each that a version shows is there
pub record ArePlaced (states : List State) (places : List Place) : Type 0 where
  pub of_states : (place : Place) → Contains places place → IsOfStates states place
  pub there : (version : ℕ) (place : Place) (c : Connection) → shown version states place ≡ Some c → c.dep ≡ place.dep → Contains places place

-- no two states with one key hold in one version
abbrev pub AreApart : List State → Type 0
AreApart states =
    (version i j : ℕ) (s t : State) → slice_get states i ≡ Some s → slice_get states j ≡ Some t → holds version s ≡ true
    → holds version t ≡ true → key_cmp s.key t.key ≡ Equal → i ≡ j

-- the states go forward, and no two of one key hold in one version; the places are theirs
pub record AreSpans (states : List State) (places : List Place) : Type 0 where
  pub forward : All (λ (s : State). GoesForward s.calls) states
  pub apart : AreApart states
  pub placed : ArePlaced states places

-- no state begins or ends after this version
pub record IsPast (newest : ℕ) (state : State) : Type 0 where
  pub begins : state.begin ≤ newest
  pub ends : ForSome state.end (λ end. end ≤ newest)

-- the state of this number holds in a version, and has the key
pub record IsOpenAt (version : ℕ) (states : List State) (key : RunKey) (number : ℕ) : Type 0 where
  pub state : State
  pub is : slice_get states number ≡ Some state
  pub here : holds version state ≡ true
  pub same_key : state.key ≡ key

-- what is found at a key is exactly the number of the state that holds in this version, if one does
abbrev pub AreOpen : ℕ → List State → (RunKey → Option (Option ℕ)) → Type 0
AreOpen version states found = (key : RunKey) (number : ℕ) → (found key ≡ Some (Some number)) ↔ IsOpenAt version states key number

-- the spans are stored, none reaches past this version, and the runs of it are found by their keys
pub record AreKept (newest : ℕ) (states : List State) (places : List Place) (found : RunKey → Option (Option ℕ)) : Type 0 where
  pub spans : AreSpans states places
  pub past : All (IsPast newest) states
  pub are_open : AreOpen newest states found

-- the fields are stored, with the newest version
abbrev pub IsKept : Inside → Type 0
IsKept index = AreKept index.newest index.spans.states.items index.spans.places (get key_cmp index.spans.running)
