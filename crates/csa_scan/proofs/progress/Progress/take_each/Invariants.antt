use Rattle.std.proofs.Common.{◌≡◌, ◌≤◌, ◌+◌, ◌-◌, ◌++◌, List, length, take, vec_len, vec_capacity}
use Rattle.lc_model.specs.Connection.{InDepartureOrder, NoneArrivesEarly}
use Rattle.lc_model.specs.Leg.{in_time}
use Rattle.lc_model.specs.declared.connection.Connection.{Connection}
use Rattle.lc_model.specs.declared.key.RunKey.{RunKey}
use Rattle.csa_scan.specs.Kept.{kept_of}
use Rattle.csa_scan.specs.Numbers.{AreDistinct, AreNumbersOf}
use Rattle.csa_scan.specs.Stands.{IsAsked, Stands}
use Rattle.csa_scan.specs.Walks.{AreWalks}
use Rattle.csa_scan.proofs.progress.Progress.take_each.Given as goal

abbrev pub invariant-loop-i : goal.invariant-loop-i
invariant-loop-i l = record {
  same_stops : length l.self.ready.items ≡ length l.initial.self.ready.items;
  same_runs : length l.self.boardings.items ≡ length l.initial.self.boardings.items;
  room : vec_len l.self.arrivals + (length l.list - l.i) ≤ vec_capacity l.self.arrivals;
  stands : (runs : List RunKey) (taken : List Connection) → IsAsked l.query l.doc → AreWalks l.query l.doc l.walks → AreDistinct runs → AreNumbersOf runs l.list l.numbers →
      InDepartureOrder (taken ++ l.list) → NoneArrivesEarly l.list →
      Stands l.query l.doc runs (kept_of l.initial.self) (in_time l.query taken) →
      Stands l.query l.doc runs (kept_of l.self) (in_time l.query (taken ++ take l.i l.list));
}
