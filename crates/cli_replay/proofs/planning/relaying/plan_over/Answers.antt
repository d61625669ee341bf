use Rattle.std.proofs.Common.{ap}
use Rattle.cli_replay.proofs.PlanningLemmas.RelayedLemmas.{all_three, held_at, relayed_by}
use Rattle.cli_replay.proofs.planning.relaying.plan_over.Goals as goal

pub returns-in-Ok-clause-relayed : goal.returns-in-Ok-clause-relayed
returns-in-Ok-clause-relayed g c =
    let planned = held_at c.plan-planned.result.0 c.in-Ok.planned _ c.in-Ok.is c.plan-planned.ensures.planned in
    all_three c.with_counts.result _ _ _ _ (λ exact with text ends.
    relayed_by g.L.Link.seen c.args.base c.args.events.items c.args.cache c.args.relay c.plan-planned.result.1 c.into_inner-link.result c.in-Ok.planned.text.items with.text.items c.in-Ok.planned.ends.items with.ends.items
    c.is_exact-exact.result c.relayed-relayed.result c.forwarded-forwarded.result c.into_inner-link.ensures c.is_exact-exact.ensures.has c.plan-planned.ensures.left planned c.is_exact-exact.ensures.exact
    c.relayed-relayed.ensures c.forwarded-forwarded.ensures exact text (ap (λ v. v.items) ends)) c.with_counts.ensures.are_exact c.with_counts.ensures.text c.with_counts.ensures.ends
