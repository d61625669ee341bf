use Rattle.http_text.proofs.QueryLemmas as lemmas
use Rattle.http_text.proofs.laws.targets_are_read.Goals as goal

pub returns : goal.returns
returns c = lemmas.targets_are_read
