-- The connections of a version, and its departures.
use Rattle.std.specs.Prelude.{◌≡◌, ℕ, List, Option}
use Rattle.lc_model.specs.Connection.{AreConnectionsOf}
use Rattle.lc_model.specs.declared.connection.Connection.{Connection}
use Rattle.lc_model.specs.declared.run.Run.{Run}
use Rattle.lc_model.specs.Versions.Pages.{departing, departures_of}
use Rattle.version_store.specs.Store.{Stored, AreRunsAt}

-- the list has exactly the connections of a version, in departure order
pub record AreConnectionsAt (store : Stored) (version : ℕ) (list : List Connection) : Type 0 where
  pub live : List Run
  pub are_runs : AreRunsAt store version live
  pub are_connections : AreConnectionsOf live list

-- those of them that depart from a moment on, and before the other one where there is one
pub record AreRows (store : Stored) (version from : ℕ) (to : Option ℕ) (rows : List Connection) : Type 0 where
  pub all : List Connection
  pub of_version : AreConnectionsAt store version all
  pub departing : rows ≡ departing from to all

-- one departure for each connection of a version, in their order
pub record AreDepartures (store : Stored) (version : ℕ) (departures : List ℕ) : Type 0 where
  pub all : List Connection
  pub of_version : AreConnectionsAt store version all
  pub one_each : departures ≡ departures_of all
