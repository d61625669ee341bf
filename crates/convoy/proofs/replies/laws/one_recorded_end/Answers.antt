use Rattle.convoy.proofs.RepliesLemmas.RecordedLemmas as lemmas
use Rattle.convoy.proofs.replies.laws.one_recorded_end.Goals as goal

pub returns-clause-got : goal.returns-clause-got
returns-clause-got g c = lemmas.got_is_recorded

pub returns-clause-end : goal.returns-clause-end
returns-clause-end g c = lemmas.one_recorded_end g.L.Link.seen
