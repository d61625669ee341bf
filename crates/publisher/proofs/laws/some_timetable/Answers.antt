use Rattle.publisher.proofs.TimetableLemmas.{some_list}
use Rattle.publisher.proofs.laws.some_timetable.Goals as goal

pub returns : goal.returns
returns c = some_list
