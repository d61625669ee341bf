use Rattle.back_client.proofs.EndsLemmas.AroundLemmas.{latest_faults_are_around_last, no_latest_fault_is_shrunken}
use Rattle.back_client.proofs.ends.replies.latest_faults_are_around_last.Goals as goal

pub returns : goal.returns
returns g c = record { around = latest_faults_are_around_last g.L.Link.seen; shrunken = no_latest_fault_is_shrunken g.L.Link.seen }
