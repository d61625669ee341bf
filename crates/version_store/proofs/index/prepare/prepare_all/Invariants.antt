use Rattle.std.proofs.Common.{◌≡◌, ◌++◌}
use Rattle.std.specs.BTreeMap.{get}
use Rattle.std.specs.List.{AllZip}
use Rattle.std.specs.Vec.Iter.{into_iter_items}
use Rattle.lc_model.specs.Run.{RunsForward}
use Rattle.lc_model.specs.RunKey.{key_cmp}
use Rattle.version_store.specs.Index.Prepared.{Carries, IsReady}
use Rattle.version_store.proofs.index.prepare.prepare_all.Given as goal

abbrev pub invariant-loop-run : goal.invariant-loop-run
invariant-loop-run l = record {
  carries : Carries l.initial.spans.states.items l.initial.spans.places (get key_cmp l.initial.spans.running) l.spans.states.items l.spans.places (get key_cmp l.spans.running);
  ready : AllZip (IsReady l.spans.states.items l.spans.places (get key_cmp l.spans.running)) l.list.items l.yielded;
  rest : l.yielded ++ into_iter_items l.run-iterator ≡ l.fn.runs.items;
  forward : RunsForward (into_iter_items l.run-iterator);
}
