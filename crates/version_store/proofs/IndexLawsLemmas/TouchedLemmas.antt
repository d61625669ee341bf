-- What a list of news changes, by the list before it.
use Rattle.std.proofs.Common.{◌≡◌, ◌⊎◌, ◌↔◌, inl, inr, ℕ, List, [], ◌∷◌, filter, Bool, true, false, cond, not, Option, Some, None, refl, sym, ap, ◌∙◌, subst}
use Rattle.std.specs.Prelude.{◌&&◌, ◌||◌}
use Rattle.std.specs.List.{Contains, last_or, list_any}
use Rattle.std.specs.Ordering.{is_eq}
use Rattle.std.specs.declared.cmp.Ordering.{Ordering}
use Rattle.std.specs.declared.cmp.Ordering.TheVariants.{Less, Equal, Greater}
use Rattle.std.proofs.lemmas.Bool.{and_parts, cases_Bool, eqb-true, or_cases, or_parts}
use Rattle.std.proofs.lemmas.Slice.Eq.{bytes_eq-Decides}
use Rattle.lc_model.specs.Change.{is_same_id}
use Rattle.lc_model.specs.RunKey.{date_cmp}
use Rattle.lc_model.specs.declared.date.ServiceDate.{ServiceDate}
use Rattle.lc_model.specs.declared.key.RunKey.{RunKey}
use Rattle.lc_model.specs.declared.run.Run.{Run}
use Rattle.lc_model.specs.declared.stop.Stop.{Stop}
use Rattle.lc_model.proofs.KeyLemmas.{same_dates}
use Rattle.lc_model.specs.Versions.Added.{has_key, is_start, news_of_key}
use Rattle.lc_model.specs.Versions.Live.{live_calls_of}
use Rattle.lc_model.specs.Versions.Naming.{is_added, is_on, names_run, news_for, starts_so}
use Rattle.lc_model.specs.Versions.News.{TripSaid}
use Rattle.version_store.specs.IndexLaws.Held.{IsRunBy}
use Rattle.version_store.specs.IndexLaws.Touched.{HasSameNews, IsLeft, IsRunAfter, IsTouchedKey, LiveAfterLive, NoneHas, OthersStay, SameNewsSameRun, TouchFewKeys, UpdateHolds, is_touched, touches}
use Rattle.version_store.proofs.IndexLawsLemmas.HeldLemmas.{one_run}

-- what the last news say of a key is what its run is made of
pub same_by : (runs : List Run) (stops : List Stop) (old new : List TripSaid) (run : Run) → news_for run.key old ≡ news_for run.key new → news_of_key run.key old ≡ news_of_key run.key new
    → IsRunBy runs stops old run → IsRunBy runs stops new run
same_by runs stops old new run named of_key (inl live) =
    let same : news_for live.run.key old ≡ news_for live.run.key new = subst (λ (k : RunKey). news_for k old ≡ news_for k new) live.same_key named in
    inl (record { run = live.run; of_timetable = live.of_timetable; same_key = live.same_key; calls = live.calls ∙ ap (live_calls_of live.run.calls) same })
same_by runs stops old new run named of_key (inr further) =
    inr (record {
      is_new = further.is_new;
      news = further.news;
      last = sym of_key ∙ further.last;
      added = further.added;
      trip_named = further.trip_named;
      calls = further.calls;
      two_at_least = further.two_at_least;
    })

pub same_news : SameNewsSameRun
same_news runs stops old new run same = (
  same_by runs stops old new run same.named same.of_key,
  same_by runs stops new old run (sym same.named) (sym same.of_key),
)

none_pass : (p q : TripSaid → Bool) (list : List TripSaid) → ((news : TripSaid) → q news ≡ false → p news ≡ false) → list_any q list ≡ false → filter p list ≡ []
none_pass p q [] so none = refl
none_pass p q (news ∷ list) so none =
    let parts = or_parts (q news) (list_any q list) none in
    ap (λ b. cond b (news ∷ filter p list) (filter p list)) (so news parts.0) ∙ none_pass p q list so parts.1

-- of news that do not touch a key none name its run, and none have it
untouched_named : (key : RunKey) (list : List TripSaid) → is_touched key list ≡ false → news_for key list ≡ None
untouched_named key list none =
    ap (last_or None) (none_pass (names_run key) (touches key) list (λ news e. (or_parts (names_run key news) (has_key key news) e).0) none)

untouched_key : (key : RunKey) (list : List TripSaid) → is_touched key list ≡ false → news_of_key key list ≡ None
untouched_key key list none =
    ap (last_or None) (none_pass (has_key key) (touches key) list (λ news e. (or_parts (names_run key news) (has_key key news) e).1) none)

untouched_news : (key : RunKey) (old new : List TripSaid) → is_touched key old ≡ false → is_touched key new ≡ false → HasSameNews key old new
untouched_news key old new in_old in_new = record {
  named = untouched_named key old in_old ∙ sym (untouched_named key new in_new);
  of_key = untouched_key key old in_old ∙ sym (untouched_key key new in_new);
}

pub others_stay : OthersStay
others_stay runs stops old new run in_old in_new = same_news runs stops old new run (untouched_news run.key old new in_old in_new)

pub live_after_live : LiveAfterLive
live_after_live runs stops old new before after were are run = (forth, back) where
  stays : (is_touched run.key old || is_touched run.key new) ≡ false → (IsRunBy runs stops old run ↔ IsRunBy runs stops new run)
  stays none = let parts = or_parts (is_touched run.key old) (is_touched run.key new) none in others_stay runs stops old new run parts.0 parts.1

  sorted_out : IsRunBy runs stops new run → ((is_touched run.key old || is_touched run.key new) ≡ true) ⊎ ((is_touched run.key old || is_touched run.key new) ≡ false) → IsRunAfter runs stops old new before run
  sorted_out is (inl some) = inr (some, is)
  sorted_out is (inr none) = inl (none, (were.exactly run).1 ((stays none).1 is))

  forth : Contains after run → IsRunAfter runs stops old new before run
  forth there = sorted_out ((are.exactly run).0 there) (cases_Bool (is_touched run.key old || is_touched run.key new))

  back : IsRunAfter runs stops old new before run → Contains after run
  back (inl (none, there)) = (are.exactly run).1 ((stays none).0 ((were.exactly run).0 there))
  back (inr (some, is)) = (are.exactly run).1 is

pub update_holds : UpdateHolds
update_holds runs stops old new ended begun before after up were changes updated run = (forth, back) where
  still : Contains before run → NoneHas begun run.key → (other : Run) → other.key ≡ run.key → IsRunBy runs stops new other → IsRunBy runs stops new run
  still was alone other same is = elim (changes.all other is) [
    | inl begins ↦ absurd (alone other begins same)
    | inr (is_old, none) ↦ subst (IsRunBy runs stops new) (one_run runs stops old other run up is_old ((were run).0 was) same) is
  ]

  left : IsLeft ended begun before run → IsRunBy runs stops new run
  left is = elim (changes.gone run ((were run).0 is.was)) [
    | inl ends ↦ absurd (is.stays ends)
    | inr (other, same, is_new) ↦ still is.was is.alone other same is_new
  ]

  forth : Contains after run → IsRunBy runs stops new run
  forth there = elim ((updated run).0 there) [ inl begins ↦ changes.begins run begins | inr is ↦ left is ]

  back : IsRunBy runs stops new run → Contains after run
  back is = elim (changes.all run is) [
    | inl begins ↦ (updated run).1 (inl begins)
    | inr (is_old, none) ↦ (updated run).1 (inr (record { was = (were run).1 is_old; stays = λ ends. changes.ends run ends is; alone = none }))
  ]

ties_are_equal : (o : Ordering) → is_eq o ≡ true → o ≡ Equal
ties_are_equal Less e = absurd (let f : false ≡ true = e in cc)
ties_are_equal Equal e = refl
ties_are_equal Greater e = absurd (let f : false ≡ true = e in cc)

date_said : (date : ServiceDate) (said : Option ServiceDate) → is_on date said ≡ true → said ≡ Some date
date_said date None e = absurd (let f : false ≡ true = e in cc)
date_said date (Some other) e = ap Some (same_dates other date (ties_are_equal (date_cmp other date) e))

start_named : (start said : Option ℕ) → starts_so start said ≡ true → (start ≡ None) ⊎ (start ≡ said)
start_named None said e = inl refl
start_named (Some start) None e = absurd (let f : false ≡ true = e in cc)
start_named (Some start) (Some said) e = inr (ap Some (sym (eqb-true said start e)))

start_had : (start said : Option ℕ) → is_start start said ≡ true → (start ≡ None) ⊎ (start ≡ said)
start_had None None e = inl refl
start_had None (Some said) e = absurd (let f : false ≡ true = e in cc)
start_had (Some start) None e = absurd (let f : false ≡ true = e in cc)
start_had (Some start) (Some said) e = inr (ap Some (sym (eqb-true said start e)))

touched_by : (key : RunKey) (news : TripSaid) → is_same_id news.trip key.trip ≡ true → is_on key.date news.date ≡ true → (key.start ≡ None) ⊎ (key.start ≡ news.start) → IsTouchedKey key news
touched_by key news trip date start = record { trip = sym ((bytes_eq-Decides news.trip key.trip).0 trip); date = date_said key.date news.date date; start = start }

named_key : (key : RunKey) (news : TripSaid) → names_run key news ≡ true → IsTouchedKey key news
named_key key news e =
    let first = and_parts (not (is_added news.kind)) (is_same_id news.trip key.trip && (is_on key.date news.date && starts_so key.start news.start)) e in
    let second = and_parts (is_same_id news.trip key.trip) (is_on key.date news.date && starts_so key.start news.start) first.1 in
    let third = and_parts (is_on key.date news.date) (starts_so key.start news.start) second.1 in
    touched_by key news second.0 third.0 (start_named key.start news.start third.1)

own_key : (key : RunKey) (news : TripSaid) → has_key key news ≡ true → IsTouchedKey key news
own_key key news e =
    let first = and_parts (is_same_id news.trip key.trip) (is_on key.date news.date && is_start key.start news.start) e in
    let second = and_parts (is_on key.date news.date) (is_start key.start news.start) first.1 in
    touched_by key news first.0 second.0 (start_had key.start news.start second.1)

pub touch_few : TouchFewKeys
touch_few key news e = elim (or_cases (names_run key news) (has_key key news) e) [ inl named ↦ named_key key news named | inr own ↦ own_key key news own ]
