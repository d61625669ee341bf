use Rattle.back_client.proofs.EndsLemmas.EarlyLemmas.{earlier_may_go, later_may_go}
use Rattle.back_client.proofs.ends.early.earlier_may_go.Goals as goal

pub returns : goal.returns
returns c = record { earlier = earlier_may_go; later = later_may_go }
