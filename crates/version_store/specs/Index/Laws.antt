-- That runs have one list of connections in departure order, by which their rows and departures are one each.
use Rattle.std.specs.Prelude.{◌≡◌, ℕ, List, Option}
use Rattle.lc_model.specs.declared.connection.Connection.{Connection}
use Rattle.lc_model.specs.declared.run.Run.{Run}
use Rattle.version_store.specs.Index.Rows.{AreDepartures, AreRows}

-- runs have one list of rows in a span, and one list of departures
pub record OneListOfRows : Type 0 where
  pub rows : (runs : List Run) (from : ℕ) (to : Option ℕ) (a b : List Connection) → AreRows runs from to a → AreRows runs from to b → a ≡ b
  pub departures : (runs : List Run) (a b : List ℕ) → AreDepartures runs a → AreDepartures runs b → a ≡ b
