use Rattle.http_text.proofs.TakenLemmas.{one_answer}
use Rattle.http_text.proofs.taken_laws.one_taking.Goals as goal

pub returns : goal.returns
returns c = one_answer
