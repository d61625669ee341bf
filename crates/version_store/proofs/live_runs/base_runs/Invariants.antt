use Rattle.std.proofs.Common.{◌≡◌, All, map, take}
use Rattle.lc_model.specs.Call.{GoesForward, InSequence}
use Rattle.lc_model.specs.Text.{IsIdText}
use Rattle.lc_model.specs.declared.run.Run.{Run}
use Rattle.version_store.specs.BaseRuns.{base_run}
use Rattle.version_store.proofs.live_runs.base_runs.Given as goal

abbrev pub invariant-runs : goal.invariant-runs
invariant-runs l = record {
  live : l.list.items ≡ map base_run (take l.run-index l.runs);
  forward : All (λ (r : Run). GoesForward r.calls) l.list.items;
  trips : All (λ (r : Run). IsIdText r.key.trip) (take l.run-index l.runs);
  calls : All (λ (r : Run). InSequence r.calls) (take l.run-index l.runs);
}
