use Rattle.http_text.proofs.MessageLemmas as lemmas
use Rattle.http_text.proofs.laws.one_message.Goals as goal

pub returns-clause-request : goal.returns-clause-request
returns-clause-request c = lemmas.one_request

pub returns-clause-reply : goal.returns-clause-reply
returns-clause-reply c = lemmas.one_read
