use Rattle.std.proofs.Common.{refl}
use Rattle.page_relay.proofs.WorkedLemmas.{worked_recorded}
use Rattle.page_relay.proofs.worked.worked_relays.Goals as goal

pub returns-clause-transcripts : goal.returns-clause-transcripts
returns-clause-transcripts c = record { unrecorded = refl; recorded = refl; over_a_relay = refl }

pub returns-clause-recorded : goal.returns-clause-recorded
returns-clause-recorded c = worked_recorded
