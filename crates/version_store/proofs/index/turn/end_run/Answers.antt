use Rattle.std.proofs.Common.{inl, refl}
use Rattle.std.specs.BTreeMap.{get}
use Rattle.lc_model.specs.RunKey.{key_cmp}
use Rattle.version_store.proofs.IndexLemmas.TurnLemmas.{end_turn}
use Rattle.version_store.proofs.index.turn.end_run.Goals as goal

pub returns : goal.returns
returns c =
    let spans = c.args.spans.now in
    end_turn c.args.next c.args.key spans.states.items spans.places (get key_cmp spans.running) c.end_state.new.states.items (get key_cmp c.put_number.new.running) c.requires
    c.end_state.ensures (c.put_number.ensures.alike (inl refl)) c.put_number.ensures.stays
