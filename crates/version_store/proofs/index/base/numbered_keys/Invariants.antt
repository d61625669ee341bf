use Rattle.version_store.proofs.IndexLemmas.BaseLemmas.{HasUpTo}
use Rattle.version_store.proofs.index.base.numbered_keys.Given as goal

abbrev pub invariant-loop-at : goal.invariant-loop-at
invariant-loop-at l = HasUpTo l.states l.at l.numbers.items
