use Rattle.version_store.proofs.NearLemmas.{some_outcome}
use Rattle.version_store.proofs.OutcomeLemmas.{one_outcome}
use Rattle.version_store.proofs.laws.one_outcome.Goals as goal

pub returns : goal.returns
returns c = record { one = one_outcome; some = some_outcome }
