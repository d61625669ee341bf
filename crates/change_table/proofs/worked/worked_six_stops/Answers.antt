use Rattle.std.proofs.Common.{refl}
use Rattle.change_table.specs.ChangeRule.{given_seconds}
use Rattle.change_table.proofs.WorkedLemmas.{not_a_second_more, not_five, six_are, six_of_one}
use Rattle.change_table.proofs.worked.worked_six_stops.Goals as goal

pub returns-clause-takes : goal.returns-clause-takes
returns-clause-takes c = six_are

pub returns-clause-count : goal.returns-clause-count
unfolding given_seconds
returns-clause-count c = refl

pub returns-clause-at_least_one : goal.returns-clause-at_least_one
returns-clause-at_least_one c = six_of_one

pub returns-clause-refuses_a_second_more : goal.returns-clause-refuses_a_second_more
returns-clause-refuses_a_second_more c = not_a_second_more

pub returns-clause-refuses_five : goal.returns-clause-refuses_five
returns-clause-refuses_five c = not_five
