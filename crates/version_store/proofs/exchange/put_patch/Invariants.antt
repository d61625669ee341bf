use Rattle.std.proofs.Common.{length}
use Rattle.version_store.specs.Filed.{HasListsOf}
use Rattle.version_store.proofs.ExchangeLemmas.{IsPutSoFar}
use Rattle.version_store.proofs.exchange.put_patch.Given as goal

abbrev pub invariant-loop-label : goal.invariant-loop-label
invariant-loop-label l = HasListsOf l.fn.patch l.initial.filed → IsPutSoFar l.fn.patch l.initial.filed l.patch l.filed

abbrev pub decreases-loop-label : goal.decreases-loop-label
decreases-loop-label l = length l.patch.entries
