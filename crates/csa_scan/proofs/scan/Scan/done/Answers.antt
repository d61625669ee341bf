use Rattle.std.proofs.Common.{ℕ, Option, IsTrue, subst}
use Rattle.lc_model.specs.Leg.{IsLegOf, in_time}
use Rattle.lc_model.specs.declared.query.Query.{Query}
use Rattle.csa_scan.specs.Done.{IsDone}
use Rattle.lc_model.proofs.OneValueLemmas.{least_arrivals_are_one}
use Rattle.csa_scan.proofs.scan.Scan.done.Goals as goal

pub returns : goal.returns
returns c = λ query doc taken best s is.
    let over = c.is_over.result in
    let last = c.args.last in
    let same = least_arrivals_are_one (IsLegOf (in_time query taken)) query doc c.best.result best (c.best.ensures query doc taken s) is in
    let Q : Query → Type 0 = λ q. (IsTrue over → IsDone q c.best.result last) × (IsDone q c.best.result last → IsTrue over) in
    let P : Option ℕ → Type 0 = λ o. (IsTrue over → IsDone query o last) × (IsDone query o last → IsTrue over) in
    subst P same (subst Q s.same_query c.is_over.ensures)
