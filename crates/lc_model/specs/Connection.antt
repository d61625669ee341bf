-- Connections and the order of their departures (Linked Connections 1.0: pages are sorted by departure time).
use Rattle.std.specs.Prelude.{ℕ, List, [], ◌∷◌, ◌≤◌, Option, Some, None}
use Rattle.std.specs.List.{All, flat_map}
use Rattle.std.specs.List.Sorted.{IsPermutation}
use Rattle.std.specs.Ordering.{nat_cmp, then_cmp, on}
use Rattle.std.specs.declared.cmp.Ordering.{Ordering}
use Rattle.lc_model.specs.Order.{IsStrict}
use Rattle.lc_model.specs.RunKey.{key_cmp}
use Rattle.lc_model.specs.declared.call.Call.{Call}
use Rattle.lc_model.specs.declared.connection.Connection.{Connection}
use Rattle.lc_model.specs.declared.key.RunKey.{RunKey}
use Rattle.lc_model.specs.declared.run.Run.{Run}

-- no connection arrives before it departs
abbrev pub NoneArrivesEarly : List Connection → Type 0
NoneArrivesEarly list = All (λ (c : Connection). c.dep ≤ c.arr) list

-- by departure, then trip, service date, start and sequence
abbrev pub departure_cmp : Connection → Connection → Ordering
departure_cmp = then_cmp (on (λ c. c.dep) nat_cmp) (then_cmp (on (λ c. c.key) key_cmp) (on (λ c. c.seq) nat_cmp))

-- connections are strictly in the order of their departures
abbrev pub InDepartureOrder : List Connection → Type 0
InDepartureOrder list = IsStrict departure_cmp list

-- the last departure of connections, if there are any
abbrev pub last_departure : List Connection → Option ℕ
last_departure [] = None
last_departure (last ∷ []) = Some last.dep
last_departure (c ∷ next ∷ rest) = last_departure (next ∷ rest)

-- the connection from one call of a run to the next
abbrev pub connection_between : RunKey → Call → Call → Connection
connection_between key from to =
    record {
      key = key;
      seq = from.seq;
      dep_stop = from.stop;
      dep = from.dep;
      arr_stop = to.stop;
      arr = to.arr;
      board = from.board;
      alight = to.alight;
      dep_delay = from.dep_delay;
      arr_delay = to.arr_delay;
    }

-- the connections from this call on, over the calls that follow it
abbrev pub connections_from : RunKey → Call → List Call → List Connection
connections_from key from [] = []
connections_from key from (to ∷ rest) = connection_between key from to ∷ connections_from key to rest

-- the connections of a run: its pairs of consecutive calls
abbrev pub connections_of_calls : RunKey → List Call → List Connection
connections_of_calls key [] = []
connections_of_calls key (first ∷ rest) = connections_from key first rest

-- the connections of all runs, run by run
abbrev pub connections_of : List Run → List Connection
connections_of runs = flat_map (λ (r : Run). connections_of_calls r.key r.calls) runs

-- the list has exactly the connections of the runs, in departure order
pub record AreConnectionsOf (runs : List Run) (list : List Connection) : Type 0 where
  pub all : IsPermutation (connections_of runs) list
  pub in_order : InDepartureOrder list
