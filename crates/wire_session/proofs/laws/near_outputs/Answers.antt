use Rattle.wire_session.proofs.EndLemmas.{at_most, none_too_early, none_twice}
use Rattle.wire_session.proofs.LongLemmas.{none_too_long}
use Rattle.wire_session.proofs.laws.near_outputs.Goals as goal

pub returns-clause-twice : goal.returns-clause-twice
returns-clause-twice c = none_twice 100

pub returns-clause-most : goal.returns-clause-most
returns-clause-most c = at_most 100

pub returns-clause-early : goal.returns-clause-early
returns-clause-early c = none_too_early 100

pub returns-clause-long : goal.returns-clause-long
returns-clause-long c = none_too_long
