use Rattle.journey_text.proofs.OneAnswerLemmas as lemmas
use Rattle.journey_text.proofs.laws.answers_differ.Goals as goal

pub returns : goal.returns
returns c = lemmas.answers_differ
