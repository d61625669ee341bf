-- Where there are no news, the live runs are those of the timetable.
use Rattle.std.proofs.Common.{◌≡◌, inl, List, [], map, Some, None, sym, ap, subst, ⊎_elim}
use Rattle.std.specs.List.{Contains}
use Rattle.std.specs.declared.cmp.Ordering.TheVariants.{Less}
use Rattle.lc_model.specs.Run.{InKeyOrder}
use Rattle.lc_model.specs.RunKey.{key_cmp}
use Rattle.lc_model.specs.declared.run.Run.{Run}
use Rattle.lc_model.specs.declared.stop.Stop.{Stop}
use Rattle.lc_model.proofs.ListLemmas.{AllPairs-map, ComesFrom-map, Contains-map}
use Rattle.lc_model.specs.Versions.Added.{IsFurtherRun}
use Rattle.lc_model.specs.Versions.Timetable.{AreLiveRuns, IsLiveRun}
use Rattle.version_store.specs.BaseRuns.{base_run}

pub base_in_order : (runs : List Run) → InKeyOrder runs → InKeyOrder (map base_run runs)
base_in_order runs up = AllPairs-map (λ (r s : Run). key_cmp r.key s.key ≡ Less) base_run runs up

pub base_live : (runs : List Run) (stops : List Stop) → InKeyOrder runs → AreLiveRuns runs stops [] (map base_run runs)
base_live runs stops up = record {
  in_order = base_in_order runs up;
  exactly = λ run. (
    λ h.
        let from = ComesFrom-map base_run runs run h in
        inl (record { run = from.from; of_timetable = from.stands; same_key = sym (ap (λ (r : Run). r.key) from.is); calls = sym (ap (λ (r : Run). r.calls) from.is) }),
    λ of. ⊎_elim (λ (is : IsLiveRun runs [] run). there run is) (λ (is : IsFurtherRun runs stops [] run). absurd (let f : None ≡ Some is.news = is.last in cc)) of,
  );
} where
  same : (run : Run) (is : IsLiveRun runs [] run) → base_run is.run ≡ run
  same run is = λ i. record { key = sym is.same_key i; calls = sym is.calls i }

  there : (run : Run) → IsLiveRun runs [] run → Contains (map base_run runs) run
  there run is = subst (Contains (map base_run runs)) (same run is) (Contains-map base_run runs is.run is.of_timetable)
