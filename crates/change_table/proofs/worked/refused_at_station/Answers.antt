use Rattle.std.proofs.Common.{lit<}
use Rattle.change_table.specs.ChangeRule.{given_seconds}
use Rattle.change_table.proofs.WorkedLemmas.{apart, none_apart}
use Rattle.std.proofs.Common.{sym}
use Rattle.change_table.proofs.worked.refused_at_station.Goals as goal

pub returns-clause-a_second_late : goal.returns-clause-a_second_late
unfolding given_seconds
returns-clause-a_second_late c = λ e. apart 120 121 (lit< tt) e

pub returns-clause-a_second_early : goal.returns-clause-a_second_early
unfolding given_seconds
returns-clause-a_second_early c = λ e. apart 299 300 (lit< tt) (sym e)

pub returns-clause-no_change_as_usual : goal.returns-clause-no_change_as_usual
unfolding given_seconds
returns-clause-no_change_as_usual c = λ e. none_apart 120 e

pub returns-clause-swapped : goal.returns-clause-swapped
unfolding given_seconds
returns-clause-swapped c = λ e. apart 60 120 (lit< tt) (sym e)

pub returns-clause-the_station_itself : goal.returns-clause-the_station_itself
unfolding given_seconds
returns-clause-the_station_itself c = λ e. none_apart 120 e
