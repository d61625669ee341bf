use Rattle.std.proofs.Common.{List, ◌∙◌, ap, map, subst}
use Rattle.std.proofs.lemmas.Result.{IfOk-weaker}
use Rattle.version_store.specs.IndexLaws.Kept.{news_in}
use Rattle.lc_model.specs.Versions.News.{TripSaid}
use Rattle.version_store.specs.Kept.{entity_said, news_said}
use Rattle.version_store.specs.TouchedKeys.{HasTouched}
use Rattle.version_store.proofs.ChangesLemmas.{changes_by}
use Rattle.version_store.proofs.changes.changes_of.Goals as goal

pub returns-clause-forward : goal.returns-clause-forward
returns-clause-forward c = c.near_changes.ensures.forward

pub returns-clause-changes : goal.returns-clause-changes
returns-clause-changes c =
    let said = ap (map news_said) c.as_slice.ensures.value ∙ c.in_ok-differing.ensures in
    let touched = news_in (map entity_said c.args.touched.now) in
    let keys = subst (λ (v : List TripSaid). HasTouched v c.in_ok-keys.keys) said c.in_ok-keys.ensures in
    IfOk-weaker c.near_changes.result _ _
    (λ changes are before after has_before has_after differ.
    changes_by c.args.runs.now c.args.stops.now (news_in before) (news_in after) c.requires.in_order c.in_ok-keys.keys touched changes c.requires.trips keys differ (are before after has_before has_after))
    c.near_changes.ensures.changes
