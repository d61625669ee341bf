-- Which places the states have.
use Rattle.std.specs.Prelude.{◌≡◌, ℕ, ◌↔◌, List, Some}
use Rattle.std.specs.List.{Contains}
use Rattle.lc_model.specs.declared.connection.Connection.{Connection}
use Rattle.version_store.specs.Index.Places.{connection_at, connection_of}
use Rattle.version_store.specs.declared.index.place.Place.{Place}
use Rattle.version_store.specs.declared.index.state.State.{State}

-- the place is that of a connection of a state with this number
pub record IsOf (number : ℕ) (state : State) (place : Place) : Type 0 where
  pub of_number : place.state ≡ number
  pub connection : Connection
  pub is : connection_of place.at state ≡ Some connection
  pub departs : connection.dep ≡ place.dep

-- the place is that of a connection of one of the states
pub record IsOfStates (states : List State) (place : Place) : Type 0 where
  pub connection : Connection
  pub is : connection_at states place ≡ Some connection
  pub departs : connection.dep ≡ place.dep

-- the list has exactly these places
abbrev pub AreOfStates : List State → List Place → Type 0
AreOfStates states places = (place : Place) → Contains places place ↔ IsOfStates states place
