use Rattle.convoy.proofs.ClientLawsLemmas.WantsLemmas.{wants_stay}
use Rattle.cli_replay.proofs.PlanLawsLemmas.PlansLemmas.{plans_right}
use Rattle.cli_replay.proofs.plan_laws.laws.plans_are_right.Goals as goal

pub returns : goal.returns
returns g c =
    let agree = c.agreement_begins.ensures in
    let keeps = c.turns_keep_agreement.ensures in
    plans_right g.L.Link.seen agree.none agree.added wants_stay keeps.turn keeps.end
