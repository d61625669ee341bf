use Rattle.lc_world.proofs.SidesLemmas.LaterLemmas as lemmas
use Rattle.lc_world.proofs.sides.laws.mementos_stay.Goals as goal

pub returns-clause-timetables : goal.returns-clause-timetables
returns-clause-timetables c = lemmas.timetables_stay

pub returns-clause-replies : goal.returns-clause-replies
returns-clause-replies c = lemmas.mementos_stay
