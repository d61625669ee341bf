-- The connections of runs in departure order, those that depart in a span, and their departures.
use Rattle.std.specs.Prelude.{◌≡◌, ℕ, ◌↔◌, List, Option}
use Rattle.std.specs.List.{Contains}
use Rattle.lc_model.specs.Connection.{AreConnectionsOf}
use Rattle.lc_model.specs.Run.{InKeyOrder}
use Rattle.lc_model.specs.declared.connection.Connection.{Connection}
use Rattle.lc_model.specs.declared.run.Run.{Run}
use Rattle.lc_model.specs.Versions.Pages.{departing, departures_of}

-- these are the runs, strictly by their keys
pub record AreInKeyOrder (runs live : List Run) : Type 0 where
  pub in_order : InKeyOrder live
  pub exactly : (run : Run) → Contains live run ↔ Contains runs run

-- the list has exactly the connections of the runs, in departure order
pub record AreConnections (runs : List Run) (list : List Connection) : Type 0 where
  pub live : List Run
  pub are_runs : AreInKeyOrder runs live
  pub are_connections : AreConnectionsOf live list

-- those of them that depart from a moment on, and before the other one where there is one
pub record AreRows (runs : List Run) (from : ℕ) (to : Option ℕ) (rows : List Connection) : Type 0 where
  pub all : List Connection
  pub of_runs : AreConnections runs all
  pub departing : rows ≡ departing from to all

-- one departure for each connection of the runs, in their order
pub record AreDepartures (runs : List Run) (departures : List ℕ) : Type 0 where
  pub all : List Connection
  pub of_runs : AreConnections runs all
  pub one_each : departures ≡ departures_of all
