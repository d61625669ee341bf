-- The rows and the departures of runs that hold, by a list that has their connections in any order.
use Rattle.std.specs.Prelude.{◌≡◌, ℕ, List, Option}
use Rattle.std.specs.List.Sorted.{IsPermutation, IsSorted}
use Rattle.lc_model.specs.Connection.{AreConnectionsOf, connections_of, departure_cmp}
use Rattle.lc_model.specs.Run.{RunsForward}
use Rattle.lc_model.specs.declared.connection.Connection.{Connection}
use Rattle.lc_model.specs.declared.run.Run.{Run}
use Rattle.lc_model.specs.Versions.Cuts.{NeverFalls}
use Rattle.lc_model.specs.Versions.Pages.{departing, departures_of}
use Rattle.version_store.specs.IndexLaws.Held.{KeysApart}

-- the connections of runs that depart from a moment on, and before the other one where there is one, in departure order
pub record AreDepartingOf (held : List Run) (from : ℕ) (to : Option ℕ) (rows : List Connection) : Type 0 where
  pub all : List Connection
  pub are_connections : AreConnectionsOf held all
  pub departing : rows ≡ departing from to all

-- one departure for each connection of runs, in their order
pub record AreDeparturesOf (held : List Run) (departures : List ℕ) : Type 0 where
  pub all : List Connection
  pub are_connections : AreConnectionsOf held all
  pub one_each : departures ≡ departures_of all

-- runs of which no two have one key, and which go forward
pub record AreSound (held : List Run) : Type 0 where
  pub apart : KeysApart held
  pub forward : RunsForward held

-- the connections of a span, taken from such a list and sorted for themselves, are in the order that they have among all connections
abbrev pub SortedAreRows : Type 0
SortedAreRows =
    (held : List Run) (from : ℕ) (to : Option ℕ) (walked made sorted : List Connection) → AreSound held → IsPermutation (connections_of held) walked
    → made ≡ departing from to walked → IsPermutation made sorted → IsSorted departure_cmp sorted → AreDepartingOf held from to sorted

-- the departures of such a list, once they are in their order, are those of all connections
abbrev pub OrderedAreDepartures : Type 0
OrderedAreDepartures =
    (held : List Run) (walked : List Connection) (made departures : List ℕ) → AreSound held → IsPermutation (connections_of held) walked
    → made ≡ departures_of walked → IsPermutation made departures → NeverFalls departures → AreDeparturesOf held departures
