-- What is in force before a message and after it, by where it is.
use Rattle.std.proofs.Common.{◌≡◌, ◌∙◌, ℕ, List, [], ◌∷◌, ◌++◌, map, filter, Bool, true, false, Option, Some, None, refl, sym, ap, ap₂, subst}
use Rattle.std.specs.Prelude.{◌||◌, if◌then◌else◌, is_some}
use Rattle.std.specs.Borrow.{Bor}
use Rattle.std.specs.BTreeMap.{BTreeMap}
use Rattle.std.specs.BTreeSet.{BTreeSet}
use Rattle.std.specs.Cmp.Lexicographic.{slice_cmp}
use Rattle.std.specs.List.{Contains, list_any}
use Rattle.std.specs.Ordering.{is_eq, nat_cmp}
use Rattle.std.proofs.lemmas.List.{map-append}
use Rattle.std.proofs.lemmas.List.Elements.{Contains-append_left, Contains-append_right, filter-append}
use Rattle.lc_model.specs.Change.{is_same_id}
use Rattle.lc_model.specs.declared.date.ServiceDate.{ServiceDate}
use Rattle.lc_model.proofs.ListLemmas.{Contains-nil}
use Rattle.lc_model.specs.Versions.History.{filled, filled_entities, kept_after, put_all, with_news}
use Rattle.lc_model.specs.Versions.News.{EntitySaid}
use Rattle.lc_model.specs.declared.versions.update.Update.{Update}
use Rattle.version_store.specs.IndexLaws.Kept.{has_id, news_in}
use Rattle.version_store.proofs.IndexLawsLemmas.PutLemmas.{put_at_once}
use Rattle.version_store.specs.Differing.{DifferBy}
use Rattle.version_store.specs.Filed.{AreFiled, AreOut, HasBy, TakesOut, is_by, list_or, listed, spots_at, spots_over, stays}
use Rattle.version_store.specs.Force.{AreInForce, GoesOver, GoesWhole, IsForceAlike, IsPatch}
use Rattle.version_store.specs.Kept.{entity_said}
use Rattle.version_store.specs.Spots.{said_in}
use Rattle.version_store.specs.declared.filed.By.{By}
use Rattle.version_store.specs.declared.filed.By.TheVariants.{Id, Trip}
use Rattle.version_store.specs.declared.force.Force.{Force}
use Rattle.version_store.specs.declared.force.Step.{Step}
use Rattle.version_store.specs.declared.kept.Marked.{Marked}
use Rattle.version_store.specs.declared.spots.Spot.{Spot}
use Rattle.version_store.specs.declared.store.Admission.{Admission}
use Rattle.version_store.proofs.DifferingLemmas.{differ_by}
use Rattle.version_store.proofs.FiledLemmas.{filters_swap}
use Rattle.version_store.proofs.SpotsLemmas.{spots_stay}

-- ---- the same spots

has_same : (by : By) (admitted : List Admission) (finds others : List ℕ → List Spot) (entities : List EntitySaid) → ((text : List ℕ) → others text ≡ finds text) → HasBy by admitted finds entities → HasBy by admitted others entities
has_same by admitted finds others entities same has text = ap (map (said_in admitted)) (same text) ∙ has text

filed_same : (admitted : List Admission) (ids ids' trips trips' : List ℕ → List Spot) (entities : List EntitySaid) → ((text : List ℕ) → ids' text ≡ ids text) → ((text : List ℕ) → trips' text ≡ trips text) → AreFiled admitted ids trips entities
    → AreFiled admitted ids' trips' entities
filed_same admitted ids ids' trips trips' entities same_ids same_trips are = record {
  by_id = has_same Id admitted ids ids' entities same_ids are.by_id;
  by_trip = has_same Trip admitted trips trips' entities same_trips are.by_trip;
  news = are.news;
}

pub force_alike : (admitted : List Admission) (old new : Force) (entities : List EntitySaid) → IsForceAlike old new → AreInForce admitted old entities → AreInForce admitted new entities
force_alike admitted old new entities alike are = filed_same admitted (spots_at old.ids) (spots_at new.ids) (spots_at old.trips) (spots_at new.trips) entities alike.ids alike.trips are

pub patch_alike : (admitted : List Admission) (old new patch : Force) (entities : List EntitySaid) → IsForceAlike old new → IsPatch admitted old patch entities → IsPatch admitted new patch entities
patch_alike admitted old new patch entities alike are =
    filed_same admitted (spots_over patch.ids old.ids) (spots_over patch.ids new.ids) (spots_over patch.trips old.trips) (spots_over patch.trips new.trips) entities
    (λ text. ap (λ s. list_or s (listed patch.ids text)) (alike.ids text)) (λ text. ap (λ s. list_or s (listed patch.trips text)) (alike.trips text)) are

-- the lists of the patch are in their places
pub patch_put : (admitted : List Admission) (old new patch : Force) (entities : List EntitySaid) → ((text : List ℕ) → spots_at new.ids text ≡ spots_over patch.ids old.ids text) → ((text : List ℕ) → spots_at new.trips text ≡ spots_over patch.trips old.trips text)
    → IsPatch admitted old patch entities → AreInForce admitted new entities
patch_put admitted old new patch entities ids trips are =
    filed_same admitted (spots_over patch.ids old.ids) (spots_at new.ids) (spots_over patch.trips old.trips) (spots_at new.trips) entities ids trips are

-- a patch over nothing
pub patch_alone : (admitted : List Admission) (empty patch : Force) (entities : List EntitySaid) → ((text : List ℕ) → spots_at empty.ids text ≡ []) → ((text : List ℕ) → spots_at empty.trips text ≡ []) → IsPatch admitted empty patch entities
    → AreInForce admitted patch entities
patch_alone admitted empty patch entities ids trips are =
    filed_same admitted (spots_over patch.ids empty.ids) (spots_at patch.ids) (spots_over patch.trips empty.trips) (spots_at patch.trips) entities
    (λ text. sym (ap (λ s. list_or s (listed patch.ids text)) (ids text))) (λ text. sym (ap (λ s. list_or s (listed patch.trips text)) (trips text))) are

-- a patch over itself finds what is in it
pub over_itself : (filed : BTreeMap (List ℕ) (List Spot)) (text : List ℕ) → spots_over filed filed text ≡ spots_at filed text
over_itself filed text = twice (listed filed text) where
  twice : (o : Option (List Spot)) → list_or (list_or [] o) o ≡ list_or [] o
  twice None = refl
  twice (Some spots) = refl

pub trips_alone : (admitted : List Admission) (patch : Force) (entities : List EntitySaid) → AreInForce admitted patch entities → HasBy Trip admitted (spots_over patch.trips patch.trips) entities
trips_alone admitted patch entities are = has_same Trip admitted (spots_at patch.trips) (spots_over patch.trips patch.trips) entities (over_itself patch.trips) are.by_trip

-- where nothing is, nothing is in force
pub none_in_force : (admitted : List Admission) (empty : Force) (entities : List EntitySaid) → ((text : List ℕ) → spots_at empty.ids text ≡ []) → ((text : List ℕ) → spots_at empty.trips text ≡ []) → entities ≡ [] → AreInForce admitted empty entities
none_in_force admitted empty entities ids trips none = subst (AreInForce admitted empty) (sym none) (record {
  by_id = λ text. ap (map (said_in admitted)) (ids text);
  by_trip = λ text. ap (map (said_in admitted)) (trips text);
  news = refl;
})

-- what is in force stays so beside a message more
pub force_stays : (admitted more : List Admission) (force : Force) (entities : List EntitySaid) → AreInForce admitted force entities → AreInForce (admitted ++ more) force entities
force_stays admitted more force entities are = record {
  by_id = λ text. spots_stay admitted more (spots_at force.ids text) (filter (is_by Id text) entities) (are.by_id text);
  by_trip = λ text. spots_stay admitted more (spots_at force.trips text) (filter (is_by Trip text) entities) (are.by_trip text);
  news = are.news;
}

-- ---- a step

both_news : (a b : List EntitySaid) → with_news a ≡ a → with_news b ≡ b → with_news (a ++ b) ≡ a ++ b
both_news a b e f = filter-append (λ (e : EntitySaid). is_some e.news) a b ∙ ap₂ (λ x y. x ++ y) e f

-- those that stay of entities with news have news
pub filed_with : (admitted : List Admission) (out : List ℕ → Bool) (entities own : List EntitySaid) (ids trips : List ℕ → List Spot) → HasBy Id admitted ids (filter (stays out) entities ++ own) → HasBy Trip admitted trips (filter (stays out) entities ++ own)
    → with_news entities ≡ entities → with_news own ≡ own → AreFiled admitted ids trips (filter (stays out) entities ++ own)
filed_with admitted out entities own ids trips by_id by_trip news own_news = record {
  by_id = by_id;
  by_trip = by_trip;
  news = both_news (filter (stays out) entities) own (filters_swap (λ (e : EntitySaid). is_some e.news) (stays out) entities ∙ ap (filter (stays out)) news) own_news;
}

-- the ids of a message are those of its entities with their dates
ids_filled : (date : ServiceDate) (id : List ℕ) (entities : List EntitySaid) → has_id id entities ≡ has_id id (map (filled date) entities)
ids_filled date id [] = refl
ids_filled date id (e ∷ rest) = ap (λ b. is_same_id id e.id || b) (ids_filled date id rest)

pub out_filled : (date : ServiceDate) (entities : List EntitySaid) (ids : BTreeSet (Bor (List ℕ))) → AreOut ids (λ id. has_id id entities) → AreOut ids (λ id. has_id id (map (filled date) entities))
out_filled date entities ids are id = are id ∙ ids_filled date id entities

-- no id is in an empty set
pub none_out : (ids : BTreeSet (Bor (List ℕ))) → ids.keys ≡ [] → AreOut ids (λ id. false)
none_out ids none id = ap (list_any (λ (k : Bor (List ℕ)). is_eq (slice_cmp nat_cmp id k.now))) none

-- after a differential message come its own entities
pub after_over : (before more own : List EntitySaid) → own ≡ put_all [] more → filter (stays (λ id. has_id id more)) before ++ own ≡ put_all before more
after_over before more own are = ap (λ v. filter (stays (λ id. has_id id more)) before ++ v) (are ∙ put_at_once [] more) ∙ sym (put_at_once before more)

pub takes_with : (out : List ℕ → Bool) (before : List EntitySaid) (gone own touched : List Marked) → touched ≡ gone ++ own → ((e : EntitySaid) → Contains before e → out e.id ≡ true → Contains (map entity_said gone) e)
    → TakesOut out before (map entity_said touched) (map entity_said own)
takes_with out before gone own touched are goes =
    let said : map entity_said touched ≡ map entity_said gone ++ map entity_said own = ap (map entity_said) are ∙ map-append entity_said gone own in
    record {
      gone = λ e there is. subst (λ v. Contains v e) (sym said) (Contains-append_left (map entity_said gone) (map entity_said own) e (goes e there is));
      begun = λ e there. subst (λ v. Contains v e) (sym said) (Contains-append_right (map entity_said gone) (map entity_said own) e there);
    }

pub goes_over : (admitted : List Admission) (force : Force) (step : Step) (out : List ℕ → Bool) (before own : List EntitySaid) → TakesOut out before (map entity_said step.touched.items) own
    → IsPatch admitted force step.patch (filter (stays out) before ++ own) → GoesOver admitted force step before (filter (stays out) before ++ own)
goes_over admitted force step out before own takes patch = record { patch = patch; differ = differ_by out before (map entity_said step.touched.items) own takes }

none_stay : (list : List EntitySaid) → filter (stays (λ id. true)) list ≡ []
none_stay [] = refl
none_stay (e ∷ list) = none_stay list

pub goes_whole : (admitted : List Admission) (step : Step) (before own : List EntitySaid) → TakesOut (λ id. true) before (map entity_said step.touched.items) own → AreInForce admitted step.patch own → GoesWhole admitted step before own
goes_whole admitted step before own takes patch = record {
  patch = patch;
  differ = subst (λ v. DifferBy (news_in (map entity_said step.touched.items)) (news_in before) (news_in v)) (ap (λ v. v ++ own) (none_stay before))
      (differ_by (λ id. true) before (map entity_said step.touched.items) own takes);
}

-- of nothing nothing goes out
pub takes_own : (own : List EntitySaid) → TakesOut (λ id. false) [] own own
takes_own own = record { gone = λ e there is. there_is_none e there; begun = λ e there. there } where
  there_is_none : (e : EntitySaid) → Contains [] e → Contains own e
  there_is_none e there = absurd (Contains-nil e there)

-- what is in force after a full message, and after a differential one
pub after_full : (date_of : ℕ → ServiceDate) (before entities : List EntitySaid) (update : Update) (date : ServiceDate) → update.full ≡ true → date ≡ date_of update.moment → entities ≡ update.entities
    → with_news (map (filled date) entities) ≡ kept_after date_of before update
after_full date_of before entities update date full at are =
    ap₂ (λ (d : ServiceDate) (v : List EntitySaid). with_news (map (filled d) v)) at are
    ∙ sym (ap (λ (b : Bool). if b then with_news (filled_entities date_of update) else put_all before (filled_entities date_of update)) full)

pub after_changes : (date_of : ℕ → ServiceDate) (before entities : List EntitySaid) (update : Update) (date : ServiceDate) → update.full ≡ false → date ≡ date_of update.moment → entities ≡ update.entities
    → put_all before (map (filled date) entities) ≡ kept_after date_of before update
after_changes date_of before entities update date full at are =
    ap₂ (λ (d : ServiceDate) (v : List EntitySaid). put_all before (map (filled d) v)) at are
    ∙ sym (ap (λ (b : Bool). if b then with_news (filled_entities date_of update) else put_all before (filled_entities date_of update)) full)
