use Rattle.std.proofs.Common.{subst, sym}
use Rattle.std.proofs.lemmas.Result.{IfOk-weaker}
use Rattle.version_store.specs.Rows.{AreRows}
use Rattle.version_store.specs.Inside.{stored_of}
use Rattle.version_store.specs.Indexed.{IsNumberOf}
use Rattle.version_store.specs.Store.{Stored}
use Rattle.version_store.proofs.IndexedLemmas.{rows_at}
use Rattle.version_store.proofs.store.Store.rows.Goals as goal

pub returns : goal.returns
returns c =
    let inside = c.self.inside in
    let number = subst (λ (s : Stored). IsNumberOf s c.args.version c.number_of-number.result) (sym c.self.view_is) c.number_of-number.ensures in
    IfOk-weaker c.rows.result _ _
    (λ rows are. subst (λ (s : Stored). AreRows s c.args.version c.args.from c.args.to rows) c.self.view_is (rows_at (stored_of inside) inside.index c.args.version c.number_of-number.result c.args.from c.args.to rows c.self.invariant.rising c.self.invariant.indexed number are))
    c.rows.ensures
