use Rattle.std.proofs.Common.{refl}
use Rattle.version_store.proofs.index_laws.worked.worked_index.Goals as goal

pub returns : goal.returns
returns c = record {
  spots = λ key. record { spots = refl; at_the_last = refl; of_no_run = refl; held = refl };
  ids = λ first second third. record { last = refl; there = refl; not_there = refl };
}
