-- Each day is looked at.
use Rattle.std.proofs.Common.{List, rules, subst}
use Rattle.std.specs.Prelude.{◌↔◌, IsTrue}
use Rattle.std.proofs.lemmas.Iterator.{YieldsList-from_slice, cases_from_all}
use Rattle.lc_model.proofs.SearchLemmas.{TellsAll, all_tells}
use Rattle.service_days.specs.declared.service_day.ServiceDay.{ServiceDay}
use Rattle.trip_calls.specs.Plannable.{ArePlannable, IsPlannable}
use Rattle.trip_calls.proofs.plannable.are_plannable.Goals as goal

pub returns : goal.returns
returns c =
    let tells : TellsAll (λ (d : ServiceDay). IsPlannable d.date) c.as_slice-days.result.now c.all.result =
    all_tells (λ (d : ServiceDay). IsPlannable d.date) c.as_slice-days.result.now c.all.result
    (cases_from_all _ _ _ (λ (d : ServiceDay). IsPlannable d.date) (λ d. IsPlannable d.date → ⊥) c.all.ensures.ran (YieldsList-from_slice c.as_slice-days.result.now cc)
    (λ x q k. (search rules, search rules)) (λ x q k. search rules)) in
    subst (λ (l : List ServiceDay). IsTrue c.all.result ↔ ArePlannable l) c.as_slice-days.ensures.value tells
