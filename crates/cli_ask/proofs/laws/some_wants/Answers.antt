use Rattle.cli_ask.proofs.WantsLemmas as lemmas
use Rattle.cli_ask.proofs.laws.some_wants.Goals as goal

pub returns-clause-wants : goal.returns-clause-wants
returns-clause-wants c = lemmas.some_wants c.some_timetable.ensures c.some_least_arrival.ensures

pub returns-clause-front : goal.returns-clause-front
returns-clause-front c = lemmas.some_front c.some_timetable.ensures c.some_least_arrival.ensures

pub returns-clause-in_order : goal.returns-clause-in_order
returns-clause-in_order c = lemmas.are_given_in_order c.some_timetable.ensures c.some_least_arrival.ensures
