use Rattle.std.proofs.Common.{All, List, [], ◌∷◌, ◌++◌, ◌∙◌, ap, arith, map, subst, sym, take, take_all}
use Rattle.std.proofs.lemmas.List.{map-append}
use Rattle.std.proofs.lemmas.List.Elements.{All-more, All-nil, All-push}
use Rattle.lc_model.specs.Call.{GoesForward, InSequence}
use Rattle.lc_model.specs.Text.{IsIdText}
use Rattle.lc_model.specs.declared.run.Run.{Run}
use Rattle.version_store.specs.BaseRuns.{base_run}
use Rattle.version_store.proofs.FurtherLemmas.{runs_taken}
use Rattle.version_store.proofs.live_runs.base_runs.Goals as goal

pub runs-init : goal.runs-init
runs-init c = record {
  live = c.in_ok-list.ensures.items;
  forward = subst (All (λ (r : Run). GoesForward r.calls)) (sym c.in_ok-list.ensures.items) (All-nil (λ (r : Run). GoesForward r.calls));
  trips = All-nil (λ (r : Run). IsIdText r.key.trip);
  calls = All-nil (λ (r : Run). InSequence r.calls);
}

pub runs-preserved : goal.runs-preserved
runs-preserved c =
    let runs = c.args.runs.now in
    let list = c.runs.list.items in
    let next = c.run-item.result in
    let made = c.in_ok-base_run.field-0 in
    let was = c.runs.invariant in
    let taken = runs_taken runs c.runs.run-index next c.runs-test.true c.run-item.is in
    record {
      live =
          c.in_ok-push.ensures.items ∙ ap (λ (v : List Run). v ++ made ∷ []) was.live ∙ ap (λ (r : Run). map base_run (take c.runs.run-index runs) ++ r ∷ []) c.in_ok-base_run.ensures.live
          ∙ sym (ap (map base_run) taken ∙ map-append base_run (take c.runs.run-index runs) (next ∷ []));
      forward = subst (All (λ (r : Run). GoesForward r.calls)) (sym c.in_ok-push.ensures.items) (All-push (λ (r : Run). GoesForward r.calls) list made was.forward c.in_ok-base_run.ensures.forward);
      trips =
          All-more (λ (r : Run). IsIdText r.key.trip) runs c.runs.run-index next c.runs-test.true was.trips
          (subst (λ (r : Run). IsIdText r.key.trip) c.run-item.is c.run_is_sound.ensures.trip);
      calls =
          All-more (λ (r : Run). InSequence r.calls) runs c.runs.run-index next c.runs-test.true was.calls
          (subst (λ (r : Run). InSequence r.calls) c.run-item.is c.run_is_sound.ensures.calls);
    }

pub returns-clause-live : goal.returns-clause-live
returns-clause-live c = c.runs.invariant.live ∙ ap (map base_run) (take_all c.runs.run-index c.args.runs.now (omega arith))

pub returns-clause-forward : goal.returns-clause-forward
returns-clause-forward c = c.runs.invariant.forward

pub returns-clause-trips : goal.returns-clause-trips
returns-clause-trips c = subst (All (λ (r : Run). IsIdText r.key.trip)) (take_all c.runs.run-index c.args.runs.now (omega arith)) c.runs.invariant.trips

pub returns-clause-calls : goal.returns-clause-calls
returns-clause-calls c = subst (All (λ (r : Run). InSequence r.calls)) (take_all c.runs.run-index c.args.runs.now (omega arith)) c.runs.invariant.calls
