use Rattle.std.proofs.Common.{subst, sym}
use Rattle.std.proofs.lemmas.Result.{IfOk-weaker}
use Rattle.version_store.specs.Indexed.{IsNumberOf}
use Rattle.version_store.specs.Inside.{stored_of}
use Rattle.version_store.specs.Rows.{AreDepartures}
use Rattle.version_store.specs.Store.{Stored}
use Rattle.version_store.proofs.IndexedLemmas.{departures_at}
use Rattle.version_store.proofs.store.Store.departures.Goals as goal

pub returns : goal.returns
returns c =
    let inside = c.self.inside in
    let number = subst (λ (s : Stored). IsNumberOf s c.args.version c.number_of-number.result) (sym c.self.view_is) c.number_of-number.ensures in
    IfOk-weaker c.departures.result _ _
    (λ departures are. subst (λ (s : Stored). AreDepartures s c.args.version departures.items) c.self.view_is (departures_at (stored_of inside) inside.index c.args.version c.number_of-number.result departures.items c.self.invariant.rising c.self.invariant.indexed number are))
    c.departures.ensures
