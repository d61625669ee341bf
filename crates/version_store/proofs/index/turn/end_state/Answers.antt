use Rattle.std.specs.BTreeMap.{get}
use Rattle.lc_model.specs.RunKey.{key_cmp}
use Rattle.version_store.proofs.IndexLemmas.UpdateLemmas.{ends_none, ends_one}
use Rattle.version_store.proofs.index.turn.end_state.Goals as goal

pub returns-in-Some : goal.returns-in-Some
returns-in-Some c =
    ends_one c.args.next c.args.key.now (get key_cmp c.args.running.now) c.args.states.now.items c.end_numbered.new.states.items c.in-Some.number ((c.number_at.ensures c.in-Some.number).0 c.in-Some.is)
    c.end_numbered.ensures

pub returns-in_default : goal.returns-in_default
returns-in_default c =
    ends_none c.args.next c.args.key.now (get key_cmp c.args.running.now) c.args.states.now.items (λ n e. c.in_default.not-Some n ((c.number_at.ensures n).1 e))
