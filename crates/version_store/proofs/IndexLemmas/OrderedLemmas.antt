-- Runs of which no two have one key, in the order of their keys, and their connections in departure order.
use Rattle.std.proofs.Common.{◌≢◌, List}
use Rattle.std.specs.List.{AllPairs, Contains}
use Rattle.std.specs.List.Sorted.{IsPermutation}
use Rattle.std.specs.Ordering.{on}
use Rattle.std.specs.declared.cmp.Ordering.TheVariants.{Equal}
use Rattle.std.proofs.lemmas.List.Sorted.{All-permutation, Contains-permutation, IsPermutation-sym}
use Rattle.lc_model.specs.Call.{GoesForward}
use Rattle.lc_model.specs.Connection.{AreConnectionsOf, connections_of, connections_of_calls, departure_cmp}
use Rattle.lc_model.specs.Run.{RunsForward}
use Rattle.lc_model.specs.RunKey.{key_cmp}
use Rattle.lc_model.specs.Totals.{departure_cmp_total, run_cmp_total}
use Rattle.lc_model.specs.declared.connection.Connection.{Connection}
use Rattle.lc_model.specs.declared.run.Run.{Run}
use Rattle.lc_model.proofs.ConnectionLemmas.{in_sequence, untied_connections}
use Rattle.lc_model.proofs.ListLemmas.{Contains-flat_map, StandsIn-flat_map}
use Rattle.version_store.specs.Index.Rows.{AreInKeyOrder}
use Rattle.lc_model.proofs.PlacedLemmas.{in_strict_order}

abbrev KeysApart : Run → Run → Type 0
KeysApart r s = key_cmp r.key s.key ≢ Equal

-- the runs of two lists have the same connections, if each of the one is in the other
connections_stand : (runs live : List Run) (c : Connection) → ((r : Run) → Contains runs r → Contains live r) → Contains (connections_of runs) c → Contains (connections_of live) c
connections_stand runs live c stands h =
    let calls = λ (r : Run). connections_of_calls r.key r.calls in
    let within = StandsIn-flat_map calls runs c h in
    Contains-flat_map calls live within.of c (stands within.of within.stands) within.within

-- the runs in the order of their keys, and all their connections in departure order
pub record Ordered (runs : List Run) : Type 0 where
  pub live : List Run
  pub are_runs : AreInKeyOrder runs live
  pub forward : RunsForward live
  pub all : List Connection
  pub are_connections : AreConnectionsOf live all
  pub there : (c : Connection) → Contains (connections_of runs) c → Contains all c
  pub back : (c : Connection) → Contains all c → Contains (connections_of runs) c

pub ordered : (runs : List Run) → AllPairs KeysApart runs → RunsForward runs → Ordered runs
ordered runs apart forward =
    let by_key = in_strict_order (on (λ (r : Run). r.key) key_cmp) run_cmp_total runs apart in
    let live = by_key.0 in
    let moved : IsPermutation runs live = by_key.1.0 in
    let goes : RunsForward live = All-permutation (λ (r : Run). GoesForward r.calls) runs live moved forward in
    let here = connections_of live in
    let by_departure = in_strict_order departure_cmp departure_cmp_total here (untied_connections live by_key.1.1 (in_sequence live goes)) in
    let all = by_departure.0 in
    let shuffled : IsPermutation here all = by_departure.1.0 in
    let to_live = λ (r : Run) (h : Contains runs r). Contains-permutation runs live r moved h in
    let from_live = λ (r : Run) (h : Contains live r). Contains-permutation live runs r (IsPermutation-sym runs live moved) h in
    record {
      live = live;
      are_runs = record { in_order = by_key.1.1; exactly = λ r. (from_live r, to_live r) };
      forward = goes;
      all = all;
      are_connections = record { all = shuffled; in_order = by_departure.1.1 };
      there = λ c h. Contains-permutation here all c shuffled (connections_stand runs live c to_live h);
      back = λ c h. connections_stand live runs c from_live (Contains-permutation all here c (IsPermutation-sym here all shuffled) h);
    }
