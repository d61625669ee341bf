use Rattle.std.proofs.lemmas.Result.{on_ok_weaker}
use Rattle.version_store.proofs.FurtherLemmas.{runs_forward}
use Rattle.version_store.proofs.indexed.update_by.Goals as goal

pub update-requires-clause-forward : goal.update-requires-clause-forward
update-requires-clause-forward c = runs_forward c.args.changes.begun c.in_ok-begun.begun.items c.requires.forward c.in_ok-begun.ensures.exactly

pub returns-clause-ok : goal.returns-clause-ok
returns-clause-ok c =
    on_ok_weaker c.update.result (λ updated. record { begun = c.in_ok-begun.begun.items; exactly = c.in_ok-begun.ensures.exactly; updated = updated }) c.update.ensures.ok
