use Rattle.publisher.proofs.SomeReplyLemmas as some
use Rattle.publisher.proofs.laws.some_reply.Goals as goal

pub returns-clause-reply : goal.returns-clause-reply
returns-clause-reply c = some.some_reply

pub returns-clause-next : goal.returns-clause-next
returns-clause-next c = some.some_next_side
