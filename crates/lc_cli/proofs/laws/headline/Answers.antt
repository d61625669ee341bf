use Rattle.lc_cli.proofs.HeadlineLemmas.{headline}
use Rattle.lc_cli.proofs.HeadlineOfArriveLemmas.{headline_of_arrive}
use Rattle.lc_cli.proofs.HeadlineOfDrillLemmas.{headline_of_drill}
use Rattle.lc_cli.proofs.HeadlineOfFewestLemmas.{headline_of_fewest}
use Rattle.lc_cli.proofs.HeadlineOfPlanLemmas.{headline_of_plan}
use Rattle.lc_cli.proofs.HeadlineOfRelayLemmas.{headline_of_relay}
use Rattle.lc_cli.proofs.HeadlineOfReplayLemmas.{headline_of_replay}
use Rattle.lc_cli.proofs.laws.headline.Goals as goal

pub returns-clause-ask : goal.returns-clause-ask
returns-clause-ask g c = headline g.L.Link.seen c.one_command.ensures c.one_timetable.ensures.loads_recorded

pub returns-clause-replay : goal.returns-clause-replay
returns-clause-replay g c =
    headline_of_replay g.L.Link.seen c.one_command.ensures c.one_timetable.ensures.loads_recorded c.one_outcome.ensures.one

pub returns-clause-plan : goal.returns-clause-plan
returns-clause-plan g c = headline_of_plan g.L.Link.seen c.one_command.ensures

pub returns-clause-drill : goal.returns-clause-drill
returns-clause-drill g c = headline_of_drill g.L.Link.seen c.one_command.ensures c.one_timetable.ensures.loads_recorded c.one_outcome.ensures.one

pub returns-clause-fewest : goal.returns-clause-fewest
returns-clause-fewest g c = headline_of_fewest g.L.Link.seen c.one_command.ensures c.one_timetable.ensures.loads_recorded

pub returns-clause-relay : goal.returns-clause-relay
returns-clause-relay g c = headline_of_relay g.L.Link.seen c.one_command.ensures c.relays_plan_right.ensures

pub returns-clause-arrive : goal.returns-clause-arrive
returns-clause-arrive g c = headline_of_arrive g.L.Link.seen c.one_command.ensures c.one_timetable.ensures.loads_recorded
