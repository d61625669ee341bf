use Rattle.std.proofs.Common.{◌≡◌, ◌++◌, List, length, drop}
use Rattle.lc_model.specs.Connection.{InDepartureOrder, NoneArrivesEarly}
use Rattle.lc_model.specs.Leg.{in_time}
use Rattle.lc_model.specs.declared.connection.Connection.{Connection}
use Rattle.lc_model.specs.declared.key.RunKey.{RunKey}
use Rattle.csa_scan.specs.Numbers.{AreDistinct, AreNumbersOf}
use Rattle.csa_scan.specs.Stands.{IsAsked}
use Rattle.csa_scan.specs.Walks.{AreWalks}
use Rattle.back_scan.specs.Kept.{kept_of}
use Rattle.back_scan.specs.Stands.{Stands}
use Rattle.back_scan.proofs.progress.Progress.take_each.Given as goal

abbrev pub invariant-connections : goal.invariant-connections
invariant-connections l = record {
  same_stops : length l.self.departures.items ≡ length l.initial.self.departures.items;
  same_runs : length l.self.alightings.items ≡ length l.initial.self.alightings.items;
  stands : (runs : List RunKey) (taken : List Connection) → IsAsked l.query l.doc → AreWalks l.query l.doc l.walks → AreDistinct runs → AreNumbersOf runs l.list l.numbers →
      InDepartureOrder (l.list ++ taken) → NoneArrivesEarly l.list →
      Stands l.query l.doc runs (kept_of l.initial.self) (in_time l.query taken) →
      Stands l.query l.doc runs (kept_of l.self) (in_time l.query (drop l.i l.list ++ taken));
}
