use Rattle.std.proofs.Common.{List, ap, subst, sym}
use Rattle.cli_ask.specs.declared.end.ClientEnd.{ClientEnd}
use Rattle.cli_replay.specs.PlanLaws.Planned.{IsPlanned}
use Rattle.cli_replay.proofs.PlanningLemmas.HappenLemmas.{both, planned, printable}
use Rattle.cli_replay.proofs.planning.planning.plan.Goals as goal

pub printed-requires : goal.printed-requires
printed-requires g c =
    printable g.L.Link.seen c.courses_are_caused.ensures c.args.base c.args.events.items c.args.cache c.args.link c.ends_over.new.link c.in-Ok.ends.items c.requires.turns c.in-Ok.ensures.happened

pub returns-in-Ok-clause-planned : goal.returns-in-Ok-clause-planned
returns-in-Ok-clause-planned g c =
    both c.printed.result _ _ _ (λ made text ends.
    subst (λ (l : List ClientEnd). IsPlanned c.args.base c.args.events.items c.args.cache (g.L.Link.seen c.args.link) (g.L.Link.seen c.ends_over.new.link) made.text.items l) (sym (ap (λ v. v.items) ends))
    (planned g.L.Link.seen c.courses_are_caused.ensures c.args.base c.args.events.items c.args.cache c.args.link c.ends_over.new.link c.in-Ok.ends.items c.requires.turns c.in-Ok.ensures.happened c.plans_are_right.ensures
    c.plan_records_replies.ensures c.requires.no_messages made.text.items text)) c.printed.ensures.text c.printed.ensures.ends
