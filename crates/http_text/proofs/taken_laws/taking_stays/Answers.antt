use Rattle.http_text.proofs.StayLemmas.{stays, same_bytes}
use Rattle.http_text.proofs.taken_laws.taking_stays.Goals as goal

pub returns-clause-answer : goal.returns-clause-answer
returns-clause-answer c = stays

pub returns-clause-request : goal.returns-clause-request
returns-clause-request c = same_bytes
