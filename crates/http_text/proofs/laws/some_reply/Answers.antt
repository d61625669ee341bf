use Rattle.http_text.proofs.MessageLemmas as lemmas
use Rattle.http_text.proofs.laws.some_reply.Goals as goal

pub returns : goal.returns
returns c = lemmas.some_read
