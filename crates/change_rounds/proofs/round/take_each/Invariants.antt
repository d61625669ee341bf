use Rattle.std.proofs.Common.{◌≡◌, ◌≤◌, ◌+◌, ◌-◌, [], List, length, take, vec_len, vec_capacity}
use Rattle.lc_model.specs.Leg.{in_time}
use Rattle.lc_model.specs.declared.key.RunKey.{RunKey}
use Rattle.csa_scan.specs.Kept.{kept_of}
use Rattle.csa_scan.specs.Numbers.{AreDistinct, AreNumbersOf}
use Rattle.csa_scan.specs.Stands.{IsAsked, IsReady}
use Rattle.csa_scan.specs.Walks.{AreWalks}
use Rattle.csa_scan.specs.declared.trace.Arrival.{Arrival}
use Rattle.change_rounds.specs.InRound.{StandsInRound}
use Rattle.change_rounds.proofs.round.take_each.Given as goal

abbrev pub invariant-loop-i : goal.invariant-loop-i
invariant-loop-i l = record {
  same_stops : length l.progress.ready.items ≡ length l.initial.progress.ready.items;
  same_runs : length l.progress.boardings.items ≡ length l.initial.progress.boardings.items;
  no_fewer : vec_len l.initial.progress.arrivals ≤ vec_len l.progress.arrivals;
  room : vec_len l.progress.arrivals + (length l.list - l.i) ≤ vec_capacity l.progress.arrivals;
  stands : (runs : List RunKey) (before : List Arrival) → IsAsked l.query l.doc → AreWalks l.query l.doc l.walks → AreDistinct runs → AreNumbersOf runs l.list l.numbers → IsReady l.doc before l.ready →
      StandsInRound l.query l.doc runs before (kept_of l.initial.progress) [] →
      StandsInRound l.query l.doc runs before (kept_of l.progress) (in_time l.query (take l.i l.list));
}
