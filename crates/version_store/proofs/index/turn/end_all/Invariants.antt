use Rattle.std.proofs.Common.{◌≡◌, ◌++◌}
use Rattle.std.specs.BTreeMap.{get}
use Rattle.std.specs.Vec.Iter.{into_iter_items}
use Rattle.lc_model.specs.RunKey.{key_cmp}
use Rattle.version_store.specs.Index.Prepared.{EndsAll}
use Rattle.version_store.proofs.index.turn.end_all.Given as goal

abbrev pub invariant-loop-key : goal.invariant-loop-key
invariant-loop-key l = record {
  ends :
      EndsAll l.next l.yielded l.initial.spans.states.items l.initial.spans.places (get key_cmp l.initial.spans.running) l.spans.states.items l.spans.places (get key_cmp l.spans.running);
  rest : l.yielded ++ into_iter_items l.key-iterator ≡ l.fn.keys.items;
}
