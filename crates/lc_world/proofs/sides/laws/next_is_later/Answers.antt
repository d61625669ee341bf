use Rattle.lc_world.proofs.SidesLemmas.LaterLemmas as lemmas
use Rattle.lc_world.proofs.sides.laws.next_is_later.Goals as goal

pub returns-clause-later : goal.returns-clause-later
returns-clause-later c = lemmas.next_is_later

pub returns-clause-valid : goal.returns-clause-valid
returns-clause-valid c = lemmas.next_is_valid

pub returns-clause-goes_on : goal.returns-clause-goes_on
returns-clause-goes_on c = λ a b d. (lemmas.later_itself a, lemmas.later_on a b d)
