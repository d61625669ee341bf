use Rattle.std.proofs.Common.{List}
use Rattle.std.specs.BTreeMap.{get}
use Rattle.std.specs.List.{AllZip}
use Rattle.std.specs.Vec.Iter.{into_iter_items}
use Rattle.lc_model.specs.Run.{InKeyOrder}
use Rattle.lc_model.specs.RunKey.{key_cmp}
use Rattle.lc_model.specs.declared.run.Run.{Run}
use Rattle.version_store.specs.Index.Inside.{AreKept}
use Rattle.version_store.specs.Index.Prepared.{IsReady}
use Rattle.version_store.proofs.IndexLemmas.UpdateLemmas.{BeganSo}
use Rattle.version_store.proofs.index.turn.begin_all.Given as goal

abbrev pub invariant-loop-ready : goal.invariant-loop-ready
invariant-loop-ready l =
    (runs : List Run) → InKeyOrder runs → AreKept l.next l.initial.spans.states.items l.initial.spans.places (get key_cmp l.initial.spans.running)
    → AllZip (IsReady l.initial.spans.states.items l.initial.spans.places (get key_cmp l.initial.spans.running)) l.fn.list.items runs
    → BeganSo l.next runs (into_iter_items l.ready-iterator) l.initial.spans.states.items l.spans.states.items l.spans.places (get key_cmp l.spans.running)
