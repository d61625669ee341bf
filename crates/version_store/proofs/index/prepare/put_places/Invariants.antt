use Rattle.std.specs.Vec.Iter.{into_iter_items}
use Rattle.version_store.proofs.IndexLemmas.PrepareLemmas.{PutsSome}
use Rattle.version_store.proofs.index.prepare.put_places.Given as goal

abbrev pub invariant-loop-place : goal.invariant-loop-place
invariant-loop-place l = PutsSome l.initial.places l.places l.fn.more.items (into_iter_items l.place-iterator)
