use Rattle.live_calls.proofs.AddedLemmas.{added_go_forward}
use Rattle.live_calls.proofs.LiveLemmas.{live_go_forward}
use Rattle.live_calls.proofs.laws.calls_go_forward.Goals as goal

pub returns : goal.returns
returns c = record { live = live_go_forward; added = added_go_forward }
