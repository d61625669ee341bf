use Rattle.std.proofs.Common.{subst}
use Rattle.lc_model.specs.Run.{InKeyOrder}
use Rattle.version_store.proofs.admit.in_order.Goals as goal

pub returns : goal.returns
returns c = subst InKeyOrder c.as_slice-runs.ensures.value c.as_slice-runs.ensures.in_order
