use Rattle.std.proofs.Common.{List, [], rules, subst, sym}
use Rattle.std.specs.List.{AllZip}
use Rattle.std.specs.BTreeMap.{get}
use Rattle.std.specs.Vec.Iter.{into_iter_items, into_iter_len}
use Rattle.std.proofs.lemmas.List.Elements.{All-head, All-rest}
use Rattle.lc_model.specs.Call.{GoesForward}
use Rattle.lc_model.specs.Run.{RunsForward}
use Rattle.lc_model.specs.RunKey.{key_cmp}
use Rattle.lc_model.specs.declared.run.Run.{Run}
use Rattle.version_store.specs.Index.Prepared.{IsReady}
use Rattle.version_store.specs.declared.index.prepare.Ready.{Ready}
use Rattle.version_store.proofs.IndexLemmas.PrepareLemmas.{carries_nothing, carries_then, no_more, nothing_left, one_more, ready_push, ready_still}
use Rattle.version_store.proofs.index.prepare.prepare_all.Goals as goal

pub loop-run-init : goal.loop-run-init
loop-run-init c =
    let spans = c.args.spans.now in
    let here = c.into_iter-run-iterator.ensures.into_iter_gives.0 in
    record {
      carries = carries_nothing spans.states.items spans.places (get key_cmp spans.running);
      ready = subst (λ (v : List Ready). AllZip (IsReady spans.states.items spans.places (get key_cmp spans.running)) v []) (sym c.in_ok-list.ensures.items) (search rules);
      rest = here;
      forward = subst RunsForward (sym here) c.requires;
    }

pub prepare-requires : goal.prepare-requires
prepare-requires c =
    let it = into_iter_items c.loop-run.run-iterator in
    All-head (λ (r : Run). GoesForward r.calls) c.in-Some.run' (into_iter_items c.next.new.self) (subst RunsForward c.in-Some.ensures.steps.0 c.loop-run.invariant.forward)

pub returns-in_err-prepare-clause-carries : goal.returns-in_err-prepare-clause-carries
returns-in_err-prepare-clause-carries c =
    let old = c.args.spans.now in
    let now = c.loop-run.spans in
    let new = c.prepare.new.spans in
    carries_then old.states.items now.states.items new.states.items old.places now.places new.places (get key_cmp old.running) (get key_cmp now.running) (get key_cmp new.running)
    c.loop-run.invariant.carries c.prepare.ensures.carries

pub returns-in_err-push-clause-carries : goal.returns-in_err-push-clause-carries
returns-in_err-push-clause-carries c =
    let old = c.args.spans.now in
    let now = c.loop-run.spans in
    let new = c.prepare.new.spans in
    carries_then old.states.items now.states.items new.states.items old.places now.places new.places (get key_cmp old.running) (get key_cmp now.running) (get key_cmp new.running)
    c.loop-run.invariant.carries c.prepare.ensures.carries

pub loop-run-preserved : goal.loop-run-preserved
loop-run-preserved c =
    let old = c.args.spans.now in
    let now = c.loop-run.spans in
    let new = c.prepare.new.spans in
    let inv = c.loop-run.invariant in
    let is = c.in-Some.ensures.steps.0 in
    let list = c.loop-run.list.items in
    record {
      carries =
          carries_then old.states.items now.states.items new.states.items old.places now.places new.places (get key_cmp old.running) (get key_cmp now.running) (get key_cmp new.running)
          inv.carries c.prepare.ensures.carries;
      ready =
          ready_push new.states.items new.places (get key_cmp new.running) list c.push.new.self.items c.loop-run.yielded c.in_ok-prepare.field-0 c.in-Some.run' c.in_ok-push.ensures.items
          (ready_still now.states.items new.states.items now.places new.places (get key_cmp now.running) (get key_cmp new.running) c.prepare.ensures.carries list c.loop-run.yielded inv.ready)
          c.in_ok-prepare.ensures.ready;
      rest = one_more c.loop-run.yielded _ _ _ c.in-Some.run' is inv.rest;
      forward = All-rest (λ (r : Run). GoesForward r.calls) c.in-Some.run' (into_iter_items c.next.new.self) _ is inv.forward;
    }

pub returns-clause-ready : goal.returns-clause-ready
returns-clause-ready c =
    let spans = c.loop-run.spans in
    let it = c.loop-run.run-iterator in
    let done = nothing_left (into_iter_items it) (into_iter_len it) it.rest.ok.0 c.in-None.ensures.steps.0 in
    subst (λ (v : List Run). AllZip (IsReady spans.states.items spans.places (get key_cmp spans.running)) c.loop-run.list.items v) (no_more c.loop-run.yielded _ c.args.runs.items done c.loop-run.invariant.rest) c.loop-run.invariant.ready
