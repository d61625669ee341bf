use Rattle.std.proofs.Common.{[], subst}
use Rattle.std.specs.Result.{IfOk}
use Rattle.lc_model.specs.declared.doc.StopsDoc.{StopsDoc}
use Rattle.csa_scan.specs.Stands.{IsAsked}
use Rattle.back_scan.specs.StandsFor.{StandsFor}
use Rattle.back_scan.proofs.scan.BackScan.of_nothing.Goals as goal

pub returns : goal.returns
returns c =
    let P : StopsDoc → Type 0 = λ d. IfOk c.before_any.result (λ scan. IsAsked c.args.query d → StandsFor scan c.args.query d []) in
    subst P c.in_ok-doc.ensures c.before_any.ensures
