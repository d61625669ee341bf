use Rattle.std.proofs.Common.{List, ap, map, subst, sym}
use Rattle.std.proofs.lemmas.Result.{IfOk-weaker}
use Rattle.version_store.specs.IndexLaws.Kept.{news_in}
use Rattle.lc_model.specs.Versions.News.{TripSaid}
use Rattle.version_store.specs.Changes.{AreNearAt}
use Rattle.version_store.specs.Kept.{news_said}
use Rattle.version_store.proofs.TripsLemmas.{near_at, near_itself}
use Rattle.version_store.proofs.changes.near_changes.Goals as goal

pub returns-clause-forward : goal.returns-clause-forward
returns-clause-forward c =
    let keys = c.args.keys.now in
    let old = map news_said c.as_slice.result.now in
    let new = map news_said c.as_slice-2.result.now in
    IfOk-weaker c.changes_by.result _ _ (λ changes are. (are old new (near_itself keys old) (near_itself keys new)).forward) c.changes_by.ensures

pub returns-clause-changes : goal.returns-clause-changes
returns-clause-changes c =
    let keys = c.args.keys.now in
    let trips = c.in_ok-trips.trips in
    IfOk-weaker c.changes_by.result _ _
    (λ changes are before after has_before has_after.
    let near = c.in_ok-near.ensures before after has_before has_after in
    are (news_in before) (news_in after)
    (subst (λ (v : List TripSaid). AreNearAt keys v (news_in before)) (ap (map news_said) (sym c.as_slice.ensures.value)) (near_at keys trips _ (news_in before) c.in_ok-trips.ensures near.of_before))
    (subst (λ (v : List TripSaid). AreNearAt keys v (news_in after)) (ap (map news_said) (sym c.as_slice-2.ensures.value)) (near_at keys trips _ (news_in after) c.in_ok-trips.ensures near.of_after)))
    c.changes_by.ensures
