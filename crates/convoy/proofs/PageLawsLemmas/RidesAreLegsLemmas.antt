-- Each ride of a run is a leg of the connections, and each leg a ride.
use Rattle.std.proofs.Common.{◌≡◌, ℕ, suc, ◌<◌, ◌≤◌, inl, inr, List, Some, true, refl, ap, sym, ◌∙◌, arith, nat_le, get_or}
use Rattle.std.specs.List.{All, slice_get}
use Rattle.std.specs.Ordering.{on}
use Rattle.std.specs.declared.cmp.Ordering.TheVariants.{Less, Equal}
use Rattle.std.proofs.Math.Nat.{eq-or-lt_of_le}
use Rattle.std.proofs.lemmas.Bool.{cases_lt, le-leb}
use Rattle.std.proofs.lemmas.List.Kept.{AllPairs-filter}
use Rattle.std.proofs.lemmas.List.Sorted.{Contains-permutation, IsPermutation-sym}
use Rattle.std.proofs.lemmas.Option.{get_or_from_slice_get, slice_get-get_or}
use Rattle.lc_model.specs.Call.{GoesForward}
use Rattle.lc_model.specs.Connection.{AreConnectionsOf, InDepartureOrder, connection_between, connections_of, connections_of_calls, departure_cmp}
use Rattle.lc_model.specs.Leg.{IsLegOf, in_time}
use Rattle.lc_model.specs.Question.{latest_of}
use Rattle.lc_model.specs.Ride.{IsRideAt, IsRideOn}
use Rattle.lc_model.specs.Run.{InKeyOrder}
use Rattle.lc_model.specs.RunKey.{key_cmp}
use Rattle.lc_model.specs.declared.call.Call.{Call}
use Rattle.lc_model.specs.declared.connection.Connection.{Connection}
use Rattle.lc_model.specs.declared.key.RunKey.{RunKey}
use Rattle.lc_model.specs.declared.query.Query.{Query}
use Rattle.lc_model.specs.declared.ride.Ride.{Ride}
use Rattle.lc_model.specs.declared.run.Run.{Run}
use Rattle.convoy.proofs.PageLawsLemmas.OrderedLemmas.{departs_before, departure_cmp-total, key_cmp-self, not_both_less}
use Rattle.convoy.proofs.PageLawsLemmas.PairsLemmas.{calls_at, connection_at}
use Rattle.convoy.proofs.PageLawsLemmas.PlacesLemmas.{Stands, all_at, contains_from_stands, pair_at, stands_from_contains, stands_from_filter, stands_from_flat_map, stands_in_filter, stands_in_flat_map, within}

-- a timetable: its runs in the order of their keys, each of which goes forward, and their connections
pub record Timetable (runs : List Run) (list : List Connection) : Type 0 where
  pub in_key_order : InKeyOrder runs
  pub forward : All (λ (r : Run). GoesForward r.calls) runs
  pub connections : AreConnectionsOf runs list

-- a connection of a run is in the list, and in what is in time of it where it arrives in time
stands_in_time : (runs : List Run) (list : List Connection) (query : Query) (at place : ℕ) (run : Run) (x : Connection) → Timetable runs list → slice_get runs at ≡ Some run → slice_get (connections_of_calls run.key run.calls) place ≡ Some x → x.arr ≤ latest_of query → Stands (in_time query list) x
stands_in_time runs list query at place run x table run_at x_at in_time_x =
    let among : Stands (connections_of runs) x = stands_in_flat_map (λ (r : Run). connections_of_calls r.key r.calls) runs at run x run_at (place, x_at) in
    let listed : Stands list x = stands_from_contains list x (Contains-permutation (connections_of runs) list x table.connections.all (contains_from_stands (connections_of runs) x among)) in
    stands_in_filter (λ (c : Connection). nat_le c.arr (latest_of query)) list listed.0 x listed.1 (le-leb x.arr (latest_of query) in_time_x)

-- of two connections in a list in departure order, the first one is less
in_order_at : (list : List Connection) (p q : ℕ) (x y : Connection) → InDepartureOrder list → slice_get list p ≡ Some x → slice_get list q ≡ Some y → departure_cmp x y ≡ Less → p < q
in_order_at list p q x y order x_at y_at less =
    elim (cases_lt p q) [
      | inl before ↦ before
      | inr after ↦ elim (eq-or-lt_of_le after) [
        | inl same ↦
            (let x_is : Some x ≡ Some y = sym x_at ∙ ap (slice_get list) (sym same) ∙ y_at in
            let x_y : x ≡ y = cc in
            absurd (not_both_less departure_cmp departure_cmp-total x y less (ap (λ c. departure_cmp y c) x_y ∙ ap (λ c. departure_cmp c y) (sym x_y) ∙ less)))
        | inr behind ↦ absurd (not_both_less departure_cmp departure_cmp-total x y less (pair_at (λ a b. departure_cmp a b ≡ Less) list q p y x order behind y_at x_at))
      ]
    ]

-- the connections in time are in departure order too
in_time_order : (list : List Connection) (query : Query) → InDepartureOrder list → InDepartureOrder (in_time query list)
in_time_order list query order = AllPairs-filter (λ a b. departure_cmp a b ≡ Less) (λ (c : Connection). nat_le c.arr (latest_of query)) list order

-- a ride from a call to the next
one_leg : (list : List Connection) (key : RunKey) (boards alights : Call) (ride : Ride) → Stands list (connection_between key boards alights) → boards.board ≡ true → alights.alight ≡ true → ride ≡ record { key = key; first_seq = boards.seq; last_seq = boards.seq; board = boards.stop; dep = boards.dep; alight = alights.stop; arr = alights.arr } → IsLegOf list ride
one_leg list key boards alights ride (place, stands) may_board may_alight is = record {
  boards_at = place;
  last_at = place;
  in_order = omega arith;
  boards = connection_between key boards alights;
  last = connection_between key boards alights;
  is_boards = stands;
  is_last = stands;
  same_run = refl;
  may_board = may_board;
  may_alight = may_alight;
  is_ride = is;
}

-- a ride over more than one call
more_legs : (list : List Connection) (key : RunKey) (boards next last alights : Call) (ride : Ride) → InDepartureOrder list → Stands list (connection_between key boards next) → Stands list (connection_between key last alights) → boards.dep ≤ last.dep → boards.seq < last.seq → boards.board ≡ true → alights.alight ≡ true → ride ≡ record { key = key; first_seq = boards.seq; last_seq = last.seq; board = boards.stop; dep = boards.dep; alight = alights.stop; arr = alights.arr } → IsLegOf list ride
more_legs list key boards next last alights ride order (p, first_at) (q, last_at) departs lower may_board may_alight is =
    let x = connection_between key boards next in
    let y = connection_between key last alights in
    let before : p < q = in_order_at list p q x y order first_at last_at (departs_before x y departs refl lower) in
    record {
      boards_at = p;
      last_at = q;
      in_order = omega arith;
      boards = x;
      last = y;
      is_boards = first_at;
      is_last = last_at;
      same_run = refl;
      may_board = may_board;
      may_alight = may_alight;
      is_ride = is;
    }

-- a ride of a run that arrives in time is a leg of the connections that do
pub ride_is_leg : (runs : List Run) (list : List Connection) (query : Query) (ride : Ride) → Timetable runs list → IsRideAt runs ride → ride.arr ≤ latest_of query → IsLegOf (in_time query list) ride
ride_is_leg runs list query ride table (at, run, below, is, on) arrives =
    let run_at : slice_get runs at ≡ Some run = slice_get-get_or runs at run below ∙ ap Some is in
    let forward : GoesForward run.calls = all_at (λ (r : Run). GoesForward r.calls) runs at run table.forward run_at in
    let arr_is : ride.arr ≡ on.alights.arr = ap (λ (r : Ride). r.arr) on.is_ride in
    elim (eq-or-lt_of_le on.in_order) [
      | inl same ↦
          (let boards_last : Some on.boards ≡ Some on.last = sym on.is_boards ∙ ap (slice_get run.calls) same ∙ on.is_last in
          let same_call : on.boards ≡ on.last = cc in
          let next_at : slice_get run.calls (suc on.boards_at) ≡ Some on.alights = ap (λ n. slice_get run.calls (suc n)) same ∙ on.is_alights in
          let x = connection_between run.key on.boards on.alights in
          let x_at = connection_at run.key run.calls on.boards_at on.boards on.alights on.is_boards next_at in
          one_leg (in_time query list) run.key on.boards on.alights ride
          (stands_in_time runs list query at on.boards_at run x table run_at x_at (omega (arith, arr_is)))
          on.may_board on.may_alight
          (on.is_ride ∙ ap (λ (c : Call). record { key = run.key; first_seq = on.boards.seq; last_seq = c.seq; board = on.boards.stop; dep = on.boards.dep; alight = on.alights.stop; arr = on.alights.arr }) (sym same_call)))
      | inr before ↦
          (let last_in = within run.calls on.last_at on.last on.is_last in
          let next : Call = get_or run.calls (suc on.boards_at) on.last in
          let next_at : slice_get run.calls (suc on.boards_at) ≡ Some next = slice_get-get_or run.calls (suc on.boards_at) on.last (omega arith) in
          let x = connection_between run.key on.boards next in
          let y = connection_between run.key on.last on.alights in
          let x_at = connection_at run.key run.calls on.boards_at on.boards next on.is_boards next_at in
          let y_at = connection_at run.key run.calls on.last_at on.last on.alights on.is_last on.is_alights in
          let next_stays : next.arr ≤ next.dep = all_at (λ (c : Call). c.arr ≤ c.dep) run.calls (suc on.boards_at) next forward.at_a_stop next_at in
          let next_goes : next.dep ≤ on.alights.arr = pair_at (λ (a b : Call). a.dep ≤ b.arr) run.calls (suc on.boards_at) (suc on.last_at) next on.alights forward.along (omega arith) next_at on.is_alights in
          let last_stays : on.last.arr ≤ on.last.dep = all_at (λ (c : Call). c.arr ≤ c.dep) run.calls on.last_at on.last forward.at_a_stop on.is_last in
          let boards_goes : on.boards.dep ≤ on.last.arr = pair_at (λ (a b : Call). a.dep ≤ b.arr) run.calls on.boards_at on.last_at on.boards on.last forward.along before on.is_boards on.is_last in
          let lower : on.boards.seq < on.last.seq = pair_at (λ (a b : Call). a.seq < b.seq) run.calls on.boards_at on.last_at on.boards on.last forward.in_sequence before on.is_boards on.is_last in
          more_legs (in_time query list) run.key on.boards next on.last on.alights ride (in_time_order list query table.connections.in_order)
          (stands_in_time runs list query at on.boards_at run x table run_at x_at (omega (arith, arr_is)))
          (stands_in_time runs list query at on.last_at run y table run_at y_at (omega (arith, arr_is)))
          (omega arith) lower on.may_board on.may_alight on.is_ride)
    ]

-- where a connection of the timetable comes from
record Origin (runs : List Run) (x : Connection) : Type 0 where
  at : ℕ
  run : Run
  run_at : slice_get runs at ≡ Some run
  place : ℕ
  from : Call
  to : Call
  from_at : slice_get run.calls place ≡ Some from
  to_at : slice_get run.calls (suc place) ≡ Some to
  is : x ≡ connection_between run.key from to

origin_of : (runs : List Run) (list : List Connection) (query : Query) (place : ℕ) (x : Connection) → Timetable runs list → slice_get (in_time query list) place ≡ Some x → Origin runs x
origin_of runs list query place x table stands =
    let listed : Stands list x = (stands_from_filter (λ (c : Connection). nat_le c.arr (latest_of query)) list place x stands).0 in
    let among : Stands (connections_of runs) x = stands_from_contains (connections_of runs) x (Contains-permutation list (connections_of runs) x (IsPermutation-sym (connections_of runs) list table.connections.all) (contains_from_stands list x listed)) in
    let found = stands_from_flat_map (λ (r : Run). connections_of_calls r.key r.calls) runs x among.0 among.1 in
    let calls = calls_at found.1.key found.1.calls found.3.0 x found.3.1 in
    record {
      at = found.0;
      run = found.1;
      run_at = found.2;
      place = found.3.0;
      from = calls.0;
      to = calls.1;
      from_at = calls.2;
      to_at = calls.3;
      is = calls.4;
    }

unequal : Less ≡ Equal → ⊥
unequal same = cc

-- runs of one key are at one place
same_place : (runs : List Run) (i j : ℕ) (r s : Run) → InKeyOrder runs → slice_get runs i ≡ Some r → slice_get runs j ≡ Some s → r.key ≡ s.key → i ≡ j
same_place runs i j r s order r_at s_at same =
    let tied : key_cmp r.key s.key ≡ Equal = ap (λ k. key_cmp r.key k) (sym same) ∙ key_cmp-self r.key in
    let tied_back : key_cmp s.key r.key ≡ Equal = ap (λ k. key_cmp s.key k) same ∙ key_cmp-self s.key in
    elim (cases_lt i j) [
      | inl before ↦
          (let less : key_cmp r.key s.key ≡ Less = pair_at (λ (a b : Run). key_cmp a.key b.key ≡ Less) runs i j r s order before r_at s_at in
          absurd (unequal (sym less ∙ tied)))
      | inr after ↦ elim (eq-or-lt_of_le after) [
        | inl equal ↦ sym equal
        | inr behind ↦
            (let less : key_cmp s.key r.key ≡ Less = pair_at (λ (a b : Run). key_cmp a.key b.key ≡ Less) runs j i s r order behind s_at r_at in
            absurd (unequal (sym less ∙ tied_back)))
      ]
    ]

-- the ride from the departure of one connection to the arrival of another
abbrev ride_between : Connection → Connection → Ride
ride_between x y = record { key = x.key; first_seq = x.seq; last_seq = y.seq; board = x.dep_stop; dep = x.dep; alight = y.arr_stop; arr = y.arr }

-- a leg of the connections in time is a ride of a run
pub leg_is_ride : (runs : List Run) (list : List Connection) (query : Query) (ride : Ride) → Timetable runs list → IsLegOf (in_time query list) ride → IsRideAt runs ride
leg_is_ride runs list query ride table leg =
    let first : Origin runs leg.boards = origin_of runs list query leg.boards_at leg.boards table leg.is_boards in
    let final : Origin runs leg.last = origin_of runs list query leg.last_at leg.last table leg.is_last in
    let x = connection_between first.run.key first.from first.to in
    let y = connection_between final.run.key final.from final.to in
    let same_key : first.run.key ≡ final.run.key = sym (ap (λ (c : Connection). c.key) first.is) ∙ leg.same_run ∙ ap (λ (c : Connection). c.key) final.is in
    let same_at : first.at ≡ final.at = same_place runs first.at final.at first.run final.run table.in_key_order first.run_at final.run_at same_key in
    let same_some : Some first.run ≡ Some final.run = sym first.run_at ∙ ap (slice_get runs) same_at ∙ final.run_at in
    let same_run : first.run ≡ final.run = cc in
    let calls = first.run.calls in
    let same_calls : calls ≡ final.run.calls = ap (λ (r : Run). r.calls) same_run in
    let last_at : slice_get calls final.place ≡ Some final.from = ap (λ c. slice_get c final.place) same_calls ∙ final.from_at in
    let alights_at : slice_get calls (suc final.place) ≡ Some final.to = ap (λ c. slice_get c (suc final.place)) same_calls ∙ final.to_at in
    let forward : GoesForward calls = all_at (λ (r : Run). GoesForward r.calls) runs first.at first.run table.forward first.run_at in
    let stays : first.from.arr ≤ first.from.dep = all_at (λ (c : Call). c.arr ≤ c.dep) calls first.place first.from forward.at_a_stop first.from_at in
    let in_order : first.place ≤ final.place =
    elim (cases_lt final.place first.place) [
      | inl back ↦
          (let goes : final.from.dep ≤ first.from.arr = pair_at (λ (a b : Call). a.dep ≤ b.arr) calls final.place first.place final.from first.from forward.along back last_at first.from_at in
          let lower : final.from.seq < first.from.seq = pair_at (λ (a b : Call). a.seq < b.seq) calls final.place first.place final.from first.from forward.in_sequence back last_at first.from_at in
          let less : departure_cmp y x ≡ Less = departs_before y x (omega arith) (sym same_key) lower in
          let less_legs : departure_cmp leg.last leg.boards ≡ Less = ap (λ c. departure_cmp c leg.boards) final.is ∙ ap (λ c. departure_cmp y c) first.is ∙ less in
          let behind : leg.last_at < leg.boards_at = in_order_at (in_time query list) leg.last_at leg.boards_at leg.last leg.boards (in_time_order list query table.connections.in_order) leg.is_last leg.is_boards less_legs in
          absurd (omega (arith, leg.in_order)))
      | inr after ↦ after
    ] in
    let on : IsRideOn first.run.key calls ride = record {
      boards_at = first.place;
      last_at = final.place;
      in_order = in_order;
      boards = first.from;
      last = final.from;
      alights = final.to;
      is_boards = first.from_at;
      is_last = last_at;
      is_alights = alights_at;
      may_board = sym (ap (λ (c : Connection). c.board) first.is) ∙ leg.may_board;
      may_alight = sym (ap (λ (c : Connection). c.alight) final.is) ∙ leg.may_alight;
      is_ride = leg.is_ride ∙ ap (λ c. ride_between c leg.last) first.is ∙ ap (λ c. ride_between x c) final.is;
    } in
    (first.at, first.run, within runs first.at first.run first.run_at, get_or_from_slice_get runs first.at first.run first.run first.run_at, on)
