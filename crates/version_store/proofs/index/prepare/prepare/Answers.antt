use Rattle.std.proofs.Common.{◌∙◌, sym, subst}
use Rattle.std.specs.BTreeMap.{get}
use Rattle.lc_model.specs.RunKey.{key_cmp}
use Rattle.lc_model.specs.declared.key.RunKey.{RunKey}
use Rattle.version_store.specs.Index.Prepared.{IsReady}
use Rattle.version_store.proofs.IndexLemmas.PrepareLemmas.{carries_nothing}
use Rattle.version_store.proofs.index.prepare.prepare.Goals as goal

pub put_run-requires-clause-at : goal.put_run-requires-clause-at
put_run-requires-clause-at c = c.in_ok-number.ensures ∙ c.len.ensures ∙ c.args.spans.now.states.ok.0

pub returns-in_err-number-clause-carries : goal.returns-in_err-number-clause-carries
returns-in_err-number-clause-carries c = let s = c.args.spans.now in carries_nothing s.states.items s.places (get key_cmp s.running)

pub returns-in_err-key-clause-carries : goal.returns-in_err-key-clause-carries
returns-in_err-key-clause-carries c = let s = c.args.spans.now in carries_nothing s.states.items s.places (get key_cmp s.running)

pub returns-clause-ready : goal.returns-clause-ready
returns-clause-ready c =
    let s = c.put_run.new.spans in
    subst (λ (k : RunKey). IsReady s.states.items s.places (get key_cmp s.running) (record { key = k; number = c.in_ok-number.number }) c.args.run) (sym c.in_ok-key.ensures) c.in_ok-put_run.ensures.ready
