use Rattle.wire_session.proofs.EndLemmas.{end_stays}
use Rattle.wire_session.proofs.GrowLemmas.{cut_short_is_front, grows}
use Rattle.wire_session.proofs.OneSaidLemmas.{one_said}
use Rattle.wire_session.proofs.laws.one_output.Goals as goal

pub returns-clause-one : goal.returns-clause-one
returns-clause-one c = one_said 100

pub returns-clause-grows : goal.returns-clause-grows
returns-clause-grows c = λ side bytes more a b. grows 100 more side bytes a b

pub returns-clause-ends : goal.returns-clause-ends
returns-clause-ends c = λ side bytes more said. end_stays 100 more side bytes said

pub returns-clause-cut_short : goal.returns-clause-cut_short
returns-clause-cut_short c = cut_short_is_front
