use Rattle.std.proofs.Common.{All, List, [], map, subst, sym, ◌∙◌}
use Rattle.std.proofs.lemmas.Result.{IfOk-weaker}
use Rattle.lc_model.specs.Call.{InSequence}
use Rattle.lc_model.specs.Run.{InKeyOrder}
use Rattle.lc_model.specs.Text.{IsIdText}
use Rattle.lc_model.specs.declared.run.Run.{Run}
use Rattle.lc_model.specs.Versions.Timetable.{AreLiveRuns}
use Rattle.version_store.specs.BaseRuns.{base_run}
use Rattle.version_store.proofs.BaseRunsLemmas.{base_in_order, base_live}
use Rattle.version_store.proofs.indexed.base_index.Goals as goal

pub new-requires : goal.new-requires
new-requires c = record {
  in_order = subst InKeyOrder (sym c.in_ok-base_runs.ensures.live) (base_in_order c.as_slice.result.now c.as_slice.ensures.in_order);
  forward = c.in_ok-base_runs.ensures.forward;
}

pub returns-clause-runs : goal.returns-clause-runs
returns-clause-runs c =
    let runs = c.as_slice.result.now in
    let value = c.as_slice.ensures.value in
    IfOk-weaker c.new.result _ _ (λ index at stops.
    subst (AreLiveRuns c.args.runs.now stops []) (sym (at 0 ∙ c.in_ok-base_runs.ensures.live))
    (subst (λ (v : List Run). AreLiveRuns v stops [] (map base_run runs)) value (base_live runs stops c.as_slice.ensures.in_order))) c.new.ensures.runs

pub returns-clause-trips : goal.returns-clause-trips
returns-clause-trips c =
    IfOk-weaker c.new.result _ (λ _. All (λ (r : Run). IsIdText r.key.trip) c.args.runs.now) (λ index at. subst (All (λ (r : Run). IsIdText r.key.trip)) c.as_slice.ensures.value c.in_ok-base_runs.ensures.trips)
    c.new.ensures.runs

pub returns-clause-calls : goal.returns-clause-calls
returns-clause-calls c =
    IfOk-weaker c.new.result _ (λ _. All (λ (r : Run). InSequence r.calls) c.args.runs.now) (λ index at. subst (All (λ (r : Run). InSequence r.calls)) c.as_slice.ensures.value c.in_ok-base_runs.ensures.calls)
    c.new.ensures.runs
