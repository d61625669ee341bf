-- Each near value is refused.
use Rattle.cli_serve.proofs.LawLemmas.{none_forgotten, none_held_back, none_twice, none_unread, none_unsent}
use Rattle.cli_serve.proofs.laws.near_servings.Goals as goal

pub returns-clause-forgotten : goal.returns-clause-forgotten
returns-clause-forgotten c = none_forgotten c.one_output.ensures.one

pub returns-clause-unsent : goal.returns-clause-unsent
returns-clause-unsent c = none_unsent c.one_output.ensures.one

pub returns-clause-held_back : goal.returns-clause-held_back
returns-clause-held_back c = none_held_back c.one_output.ensures.one

pub returns-clause-unread : goal.returns-clause-unread
returns-clause-unread c = none_unread

pub returns-clause-twice : goal.returns-clause-twice
returns-clause-twice c = none_twice c.one_output.ensures.one
