-- Legs of a list of connections, as a scan sees them (Dibbelt et al., Connection Scan Algorithm, section 2).
use Rattle.std.specs.Prelude.{◌≡◌, ℕ, ◌≤◌, List, Some, true, Option, filter, nat_le}
use Rattle.std.specs.List.{slice_get}
use Rattle.lc_model.specs.Journey.{IsJourney, IsLeastArrival}
use Rattle.lc_model.specs.Question.{latest_of}
use Rattle.lc_model.specs.declared.connection.Connection.{Connection}
use Rattle.lc_model.specs.declared.doc.StopsDoc.{StopsDoc}
use Rattle.lc_model.specs.declared.journey.Journey.{Journey}
use Rattle.lc_model.specs.declared.query.Query.{Query}
use Rattle.lc_model.specs.declared.ride.Ride.{Ride}

-- The ride boards the connection `boards` of the list and alights from the connection `last` of the same run. That
-- is the same one or comes after it.
pub record IsLegOf (list : List Connection) (ride : Ride) : Type 0 where
  pub boards_at : ℕ
  pub last_at : ℕ
  pub in_order : boards_at ≤ last_at
  pub boards : Connection
  pub last : Connection
  pub is_boards : slice_get list boards_at ≡ Some boards
  pub is_last : slice_get list last_at ≡ Some last
  pub same_run : boards.key ≡ last.key
  pub may_board : boards.board ≡ true
  pub may_alight : last.alight ≡ true
  pub is_ride : ride ≡ record {
    key = boards.key;
    first_seq = boards.seq;
    last_seq = last.seq;
    board = boards.dep_stop;
    dep = boards.dep;
    alight = last.arr_stop;
    arr = last.arr;
  }

-- the connections that arrive within the horizon of the question
abbrev pub in_time : Query → List Connection → List Connection
in_time query list = filter (λ (c : Connection). nat_le c.arr (latest_of query)) list

-- a journey of the question made of legs of the list
abbrev pub IsChain : Query → StopsDoc → List Connection → Journey → Type 0
IsChain query doc list = IsJourney (IsLegOf (in_time query list)) query doc

-- the least arrival of a chain of the list, or none where there is no chain
abbrev pub IsListBest : Query → StopsDoc → List Connection → Option ℕ → Type 0
IsListBest query doc list = IsLeastArrival (IsLegOf (in_time query list)) query doc
