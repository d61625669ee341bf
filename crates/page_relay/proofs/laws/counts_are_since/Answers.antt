use Rattle.page_relay.proofs.TranscriptLemmas.{counts_since, lengths, one_transcript}
use Rattle.page_relay.proofs.laws.counts_are_since.Goals as goal

pub returns-clause-since : goal.returns-clause-since
returns-clause-since g c = counts_since _

pub returns-clause-lengths : goal.returns-clause-lengths
returns-clause-lengths g c = lengths

pub returns-clause-one : goal.returns-clause-one
returns-clause-one g c = one_transcript
