use Rattle.std.specs.BTreeMap.{get}
use Rattle.lc_model.specs.RunKey.{key_cmp}
use Rattle.version_store.proofs.IndexLemmas.PrepareLemmas.{carries_key, carries_state, carries_then, ready_put}
use Rattle.version_store.proofs.index.prepare.put_run.Goals as goal

pub returns-in_err-put_key-clause-carries : goal.returns-in_err-put_key-clause-carries
returns-in_err-put_key-clause-carries c =
    let spans = c.args.spans.now in
    carries_key spans.states.items spans.places (get key_cmp spans.running) (get key_cmp c.put_key.new.running) c.in_err-put_key.ensures.alike c.in_err-put_key.ensures.stays

pub returns-clause-carries : goal.returns-clause-carries
returns-clause-carries c =
    let spans = c.args.spans.now in
    let states = spans.states.items in
    let places = spans.places in
    let old = get key_cmp spans.running in
    let new = get key_cmp c.put_key.new.running in
    let key = carries_key states places old new c.in_ok-put_key.ensures.alike c.in_ok-put_key.ensures.stays in
    carries_then states states c.put_state.new.states.items places places c.put_state.new.places old new new key
    (carries_state c.args.number c.args.run states c.put_state.new.states.items places c.put_state.new.places new c.requires.at c.requires.forward c.put_state.ensures.puts)

pub returns-clause-ready : goal.returns-clause-ready
returns-clause-ready c = ready_put c.put_state.result c.args.number c.args.run c.args.spans.now.states.items c.put_state.new.states.items c.put_state.new.places (get key_cmp c.put_key.new.running) c.requires.at c.in_ok-put_key.ensures.has c.put_state.ensures.pushed c.put_state.ensures.has
