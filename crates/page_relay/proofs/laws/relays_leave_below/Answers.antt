use Rattle.page_relay.proofs.TranscriptLemmas.{leaves_below}
use Rattle.page_relay.proofs.laws.relays_leave_below.Goals as goal

pub returns : goal.returns
returns g c = leaves_below _
