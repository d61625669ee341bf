use Rattle.convoy.proofs.RepliesLemmas.OneEndLemmas as lemmas
use Rattle.convoy.proofs.replies.laws.one_end.Goals as goal

pub returns : goal.returns
returns c = lemmas.one_end
