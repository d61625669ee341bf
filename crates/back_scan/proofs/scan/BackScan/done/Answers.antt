use Rattle.std.proofs.Common.{ℕ, Option, IsTrue, subst}
use Rattle.lc_model.specs.Leg.{IsLegOf, in_time}
use Rattle.lc_model.specs.declared.query.Query.{Query}
use Rattle.back_scan.specs.Over.{IsOver}
use Rattle.back_scan.proofs.OneLatestLemmas.{latest_departures_are_one}
use Rattle.back_scan.proofs.scan.BackScan.done.Goals as goal

pub returns : goal.returns
returns c = λ query doc taken latest s is.
    let over = c.is_over.result in
    let first = c.args.first in
    let same = latest_departures_are_one (IsLegOf (in_time query taken)) query doc c.latest.result latest (c.latest.ensures query doc taken s) is in
    let Q : Query → Type 0 = λ q. (IsTrue over → IsOver q c.latest.result first) × (IsOver q c.latest.result first → IsTrue over) in
    let P : Option ℕ → Type 0 = λ o. (IsTrue over → IsOver query o first) × (IsOver query o first → IsTrue over) in
    subst P same (subst Q s.same_query c.is_over.ensures)
