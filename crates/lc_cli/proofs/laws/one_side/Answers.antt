use Rattle.lc_cli.proofs.OneServingLemmas.{begins_from_it, not_another_base, not_made_up, not_unasked, one_side}
use Rattle.lc_cli.proofs.laws.one_side.Goals as goal

pub returns-clause-one : goal.returns-clause-one
returns-clause-one g c = one_side c.one_timetable.ensures.one c.one_outcome.ensures.one

pub returns-clause-begins : goal.returns-clause-begins
returns-clause-begins g c = begins_from_it g.L.Link.seen c.one_timetable.ensures.loads_recorded

pub returns-clause-made_up : goal.returns-clause-made_up
returns-clause-made_up g c = not_made_up

pub returns-clause-unasked : goal.returns-clause-unasked
returns-clause-unasked g c = not_unasked

pub returns-clause-base : goal.returns-clause-base
returns-clause-base g c = not_another_base
