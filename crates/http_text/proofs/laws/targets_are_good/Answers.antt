use Rattle.http_text.proofs.TargetLemmas as lemmas
use Rattle.http_text.proofs.laws.targets_are_good.Goals as goal

pub returns : goal.returns
returns c = lemmas.targets_are_good
