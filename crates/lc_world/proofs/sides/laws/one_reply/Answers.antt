use Rattle.lc_world.proofs.SidesLemmas.OneReplyLemmas as lemmas
use Rattle.lc_world.proofs.sides.laws.one_reply.Goals as goal

pub returns-clause-timetable : goal.returns-clause-timetable
returns-clause-timetable c = lemmas.one_timetable

pub returns-clause-reply : goal.returns-clause-reply
returns-clause-reply c = lemmas.one_reply

pub returns-clause-next : goal.returns-clause-next
returns-clause-next c = lemmas.one_next_side
