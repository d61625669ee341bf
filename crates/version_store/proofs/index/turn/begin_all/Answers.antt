use Rattle.std.proofs.Common.{List, subst, sym}
use Rattle.std.specs.BTreeMap.{get}
use Rattle.std.specs.Vec.Iter.{into_iter_items, into_iter_len}
use Rattle.lc_model.specs.RunKey.{key_cmp}
use Rattle.version_store.specs.declared.index.prepare.Ready.{Ready}
use Rattle.version_store.proofs.IndexLemmas.PrepareLemmas.{nothing_left}
use Rattle.version_store.proofs.IndexLemmas.UpdateLemmas.{BeganSo, began_all, began_more, began_none}
use Rattle.version_store.proofs.index.turn.begin_all.Goals as goal

pub loop-ready-init : goal.loop-ready-init
loop-ready-init c = λ runs up kept ready.
    let spans = c.args.spans.now in
    let states = spans.states.items in
    let places = spans.places in
    let found = get key_cmp spans.running in
    subst (λ (v : List Ready). BeganSo c.args.next runs v states states places found) (sym c.into_iter-ready-iterator.ensures.into_iter_gives.0) (began_none c.args.next runs c.args.list.items states places found kept ready)

pub loop-ready-preserved : goal.loop-ready-preserved
loop-ready-preserved c = λ runs up kept ready.
    let old = c.args.spans.now in
    let now = c.loop-ready.spans in
    let new = c.begin_run.new.spans in
    began_more c.args.next runs _ _ c.in-Some.ready old.states.items now.states.items new.states.items now.places new.places (get key_cmp now.running) (get key_cmp new.running)
    c.in-Some.ensures.steps.0 up c.begin_run.ensures (c.loop-ready.invariant runs up kept ready)

pub returns : goal.returns
returns c = λ runs up kept ready.
    let old = c.args.spans.now in
    let now = c.loop-ready.spans in
    let it = c.loop-ready.ready-iterator in
    let done = nothing_left (into_iter_items it) (into_iter_len it) it.rest.ok.0 c.in-None.ensures.steps.0 in
    began_all c.args.next runs _ old.states.items now.states.items now.places (get key_cmp now.running) done (c.loop-ready.invariant runs up kept ready)
