use Rattle.std.proofs.Common.{Option, subst, arith}
use Rattle.lc_model.specs.declared.journey.Journey.{Journey}
use Rattle.csa_scan.specs.StandsFor.{IsBestChain}
use Rattle.change_rounds.proofs.fewest.best_of.Goals as goal

pub returns-in_default-2 : goal.returns-in_default-2
returns-in_default-2 c = λ query doc taken s.
    let P : Option Journey → Type 0 = λ o. IsBestChain query doc taken o in
    subst P c.in_default-2.is (c.in_ok-journey.ensures query doc taken s)

pub returns : goal.returns
returns c = λ query doc taken s.
    let P : Option Journey → Type 0 = λ o. IsBestChain query doc taken o in
    let best = subst P c.in-Some-2.is (c.in_ok-journey.ensures query doc taken s) in
    let least = c.in-Some.ensures query doc taken s in
    let by = best.is_earliest least.0.0 least.0.1 in
    let at = least.0.2 in
    let no_earlier = least.1 c.in-Some-2.journey best.is_journey in
    (best, omega arith)
