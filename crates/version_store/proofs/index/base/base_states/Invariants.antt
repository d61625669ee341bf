use Rattle.std.proofs.Common.{◌≡◌, ◌++◌, map}
use Rattle.std.specs.Vec.Iter.{into_iter_items}
use Rattle.version_store.specs.Index.Base.{base_state}
use Rattle.version_store.proofs.index.base.base_states.Given as goal

abbrev pub invariant-loop-run : goal.invariant-loop-run
invariant-loop-run l = l.states.items ++ map base_state (into_iter_items l.run-iterator) ≡ map base_state l.fn.runs.items
