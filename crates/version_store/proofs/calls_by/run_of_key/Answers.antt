use Rattle.std.proofs.Common.{rules}
use Rattle.std.proofs.lemmas.Fn.{always_returns_same}
use Rattle.lc_model.specs.RunKey.{key_cmp}
use Rattle.lc_model.specs.declared.run.Run.{Run}
use Rattle.version_store.proofs.CallsByLemmas.{run_found, run_not_found}
use Rattle.version_store.proofs.calls_by.run_of_key.Goals as goal

pub returns-in-Ok : goal.returns-in-Ok
returns-in-Ok c =
    let at = c.in-Ok.ensures.position (λ (r : Run). key_cmp r.key c.args.key.now) (always_returns_same _ _ _ (λ a r g called. (search rules, search rules))) in
    run_found c.args.runs.now c.args.key.now c.in-Ok.place c.index-runs-place.result c.in-Ok.ensures.bound c.index-runs-place.is at

pub returns-in-Err : goal.returns-in-Err
returns-in-Err c =
    let at = c.in-Err.ensures.position (λ (r : Run). key_cmp r.key c.args.key.now) (always_returns_same _ _ _ (λ a r g called. (search rules, search rules))) in
    run_not_found c.args.runs.now c.args.key.now c.in-Err.field-0 c.requires at
