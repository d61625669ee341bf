-- The definition computes.
use Rattle.std.proofs.Common.{refl}
use Rattle.change_table.specs.ChangeRule.{given_seconds}
use Rattle.change_table.proofs.worked.worked_station.Goals as goal

pub returns-clause-siblings : goal.returns-clause-siblings
unfolding given_seconds
returns-clause-siblings c = refl

pub returns-clause-not_the_station : goal.returns-clause-not_the_station
unfolding given_seconds
returns-clause-not_the_station c = refl

pub returns-clause-from_parents : goal.returns-clause-from_parents
unfolding given_seconds
returns-clause-from_parents c = refl

pub returns-clause-at_one_child : goal.returns-clause-at_one_child
unfolding given_seconds
returns-clause-at_one_child c = refl

pub returns-clause-at_the_station : goal.returns-clause-at_the_station
unfolding given_seconds
returns-clause-at_the_station c = refl

pub returns-clause-own_row_behind : goal.returns-clause-own_row_behind
unfolding given_seconds
returns-clause-own_row_behind c = refl

pub returns-clause-own_row_before : goal.returns-clause-own_row_before
unfolding given_seconds
returns-clause-own_row_before c = refl

pub returns-clause-not_swapped : goal.returns-clause-not_swapped
unfolding given_seconds
returns-clause-not_swapped c = refl

pub returns-clause-first_row : goal.returns-clause-first_row
unfolding given_seconds
returns-clause-first_row c = refl

pub returns-clause-to_the_parent : goal.returns-clause-to_the_parent
unfolding given_seconds
returns-clause-to_the_parent c = refl

pub returns-clause-from_the_parent : goal.returns-clause-from_the_parent
unfolding given_seconds
returns-clause-from_the_parent c = refl

pub returns-clause-own_before_parent : goal.returns-clause-own_before_parent
unfolding given_seconds
returns-clause-own_before_parent c = refl

pub returns-clause-usual_type : goal.returns-clause-usual_type
unfolding given_seconds
returns-clause-usual_type c = refl

pub returns-clause-timed_type : goal.returns-clause-timed_type
unfolding given_seconds
returns-clause-timed_type c = refl

pub returns-clause-no_time : goal.returns-clause-no_time
unfolding given_seconds
returns-clause-no_time c = refl

pub returns-clause-other_type : goal.returns-clause-other_type
unfolding given_seconds
returns-clause-other_type c = refl

pub returns-clause-at_least_one : goal.returns-clause-at_least_one
unfolding given_seconds
returns-clause-at_least_one c = refl

pub returns-clause-no_stop : goal.returns-clause-no_stop
unfolding given_seconds
returns-clause-no_stop c = refl

pub returns-clause-five_changes : goal.returns-clause-five_changes
unfolding given_seconds
returns-clause-five_changes c = refl
