use Rattle.convoy.proofs.RepliesLemmas.AloneLemmas as lemmas
use Rattle.convoy.proofs.replies.laws.alone_asks_all.Goals as goal

pub returns : goal.returns
returns c = lemmas.alone_asks_all
