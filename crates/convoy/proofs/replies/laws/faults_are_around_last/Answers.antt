use Rattle.convoy.proofs.RepliesLemmas.AroundLemmas as lemmas
use Rattle.convoy.proofs.replies.laws.faults_are_around_last.Goals as goal

pub returns-clause-around : goal.returns-clause-around
returns-clause-around g c = lemmas.faults_are_around_last g.L.Link.seen

pub returns-clause-shrunken : goal.returns-clause-shrunken
returns-clause-shrunken g c = lemmas.no_fault_is_shrunken g.L.Link.seen
