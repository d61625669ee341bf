use Rattle.std.proofs.Common.{List, subst}
use Rattle.std.specs.BTreeMap.{get}
use Rattle.std.specs.Vec.Iter.{into_iter_items, into_iter_len}
use Rattle.lc_model.specs.RunKey.{key_cmp}
use Rattle.lc_model.specs.declared.key.RunKey.{RunKey}
use Rattle.version_store.specs.Index.Prepared.{EndsAll}
use Rattle.version_store.proofs.IndexLemmas.PrepareLemmas.{no_more, nothing_left, one_more}
use Rattle.version_store.proofs.IndexLemmas.UpdateLemmas.{ends_all_more, ends_all_none}
use Rattle.version_store.proofs.index.turn.end_all.Goals as goal

pub loop-key-init : goal.loop-key-init
loop-key-init c =
    let spans = c.args.spans.now in
    record { ends = ends_all_none c.args.next spans.states.items spans.places (get key_cmp spans.running) c.requires; rest = c.into_iter-key-iterator.ensures.into_iter_gives.0 }

pub loop-key-preserved : goal.loop-key-preserved
loop-key-preserved c =
    let old = c.args.spans.now in
    let now = c.loop-key.spans in
    let new = c.end_run.new.spans in
    let inv = c.loop-key.invariant in
    record {
      ends =
          ends_all_more c.args.next c.loop-key.yielded c.in-Some.key old.states.items now.states.items new.states.items old.places now.places new.places (get key_cmp old.running)
          (get key_cmp now.running) (get key_cmp new.running) inv.ends c.end_run.ensures;
      rest = one_more c.loop-key.yielded _ _ _ c.in-Some.key c.in-Some.ensures.steps.0 inv.rest;
    }

pub returns : goal.returns
returns c =
    let old = c.args.spans.now in
    let now = c.loop-key.spans in
    let it = c.loop-key.key-iterator in
    let inv = c.loop-key.invariant in
    let done = nothing_left (into_iter_items it) (into_iter_len it) it.rest.ok.0 c.in-None.ensures.steps.0 in
    subst (λ (v : List RunKey). EndsAll c.args.next v old.states.items old.places (get key_cmp old.running) now.states.items now.places (get key_cmp now.running))
    (no_more c.loop-key.yielded _ c.args.keys.items done inv.rest) inv.ends
