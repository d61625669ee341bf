use Rattle.std.proofs.Common.{◌++◌, ◌∙◌, List, ap, map, sym}
use Rattle.std.proofs.lemmas.List.{append-nil}
use Rattle.std.proofs.lemmas.Map.Iter.{rest_all}
use Rattle.lc_model.specs.declared.call.Call.{Call}
use Rattle.lc_model.specs.declared.key.RunKey.{RunKey}
use Rattle.version_store.proofs.FurtherLemmas.{run_of, runs_exactly, runs_in_order}
use Rattle.version_store.proofs.live_runs.runs_in.Goals as goal

pub returns-clause-in_order : goal.returns-clause-in_order
returns-clause-in_order c =
    let done = rest_all (λ (p : RunKey × List Call). p) _ _ _ c.in-None.is c.next.ensures.steps in
    let made = sym (append-nil c.entries.runs.items) ∙ ap (λ v. c.entries.runs.items ++ map run_of v) (sym done) ∙ c.entries.invariant in
    runs_in_order c.args.live c.entries.runs.items c.len.ensures.ordered made

pub returns-clause-exactly : goal.returns-clause-exactly
returns-clause-exactly c =
    let done = rest_all (λ (p : RunKey × List Call). p) _ _ _ c.in-None.is c.next.ensures.steps in
    let made = sym (append-nil c.entries.runs.items) ∙ ap (λ v. c.entries.runs.items ++ map run_of v) (sym done) ∙ c.entries.invariant in
    runs_exactly c.args.live c.entries.runs.items c.len.ensures.ordered made
