use Rattle.std.proofs.Common.{inr, subst, sym}
use Rattle.std.specs.Prelude.{IsSome}
use Rattle.std.specs.BTreeMap.{get}
use Rattle.lc_model.specs.RunKey.{key_cmp}
use Rattle.lc_model.specs.declared.key.RunKey.{RunKey}
use Rattle.version_store.proofs.IndexLemmas.TurnLemmas.{begin_turn}
use Rattle.version_store.proofs.index.turn.begin_run.Goals as goal

pub returns : goal.returns
returns c = λ run kept is_ready.
    let spans = c.args.spans.now in
    let found = get key_cmp spans.running in
    let has = subst (λ (k : RunKey). IsSome (found k)) (sym is_ready.same_key) is_ready.has_key in
    begin_turn c.args.next run c.args.ready spans.states.items spans.places found c.end_state.new.states.items c.begin_state.new.states.items (get key_cmp c.put_number.new.running) kept is_ready
    c.end_state.ensures c.begin_state.ensures (c.put_number.ensures.alike (inr has)) c.put_number.ensures.stays
