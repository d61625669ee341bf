-- Lists that are alike at the keys that differing news do not touch.
use Rattle.std.proofs.Common.{◌≡◌, ◌∙◌, inl, inr, ℕ, List, [], ◌∷◌, ◌++◌, filter, Bool, true, false, cond, Option, Some, None, refl, sym, ap}
use Rattle.std.specs.List.{Contains, cons_option, last_or, list_any}
use Rattle.std.proofs.lemmas.Bool.{not-false, or_parts}
use Rattle.std.proofs.lemmas.List.{append-nil}
use Rattle.std.proofs.lemmas.List.Elements.{filter-append, filter_map-append}
use Rattle.lc_model.specs.declared.key.RunKey.{RunKey}
use Rattle.lc_model.proofs.ListLemmas.{Contains-cases, Contains-here, Contains-nil, Contains-there}
use Rattle.lc_model.specs.Versions.Added.{has_key}
use Rattle.lc_model.specs.Versions.Naming.{names_run}
use Rattle.lc_model.specs.Versions.News.{EntitySaid, TripSaid}
use Rattle.version_store.specs.IndexLaws.Kept.{news_in}
use Rattle.version_store.specs.IndexLaws.Touched.{HasSameNews, touches}
use Rattle.version_store.specs.Differing.{AreAlikeAt, DifferBy}
use Rattle.version_store.specs.Filed.{TakesOut, stays}

-- lists that are alike at a key have the same last news of it
pub alike_last : (key : RunKey) (old new : List TripSaid) → AreAlikeAt key old new → HasSameNews key old new
alike_last key old new alike = record { named = ap (last_or _) alike.named; of_key = ap (last_or _) alike.of_key }

pub alike_itself : (key : RunKey) (list : List TripSaid) → AreAlikeAt key list list
alike_itself key list = record { named = refl; of_key = refl }

both_more : (p : TripSaid → Bool) (o : Option TripSaid) (xs ys : List TripSaid) → filter p xs ≡ filter p ys → filter p (cons_option o xs) ≡ filter p (cons_option o ys)
both_more p None xs ys e = e
both_more p (Some n) xs ys e = ap (λ v. cond (p n) (n ∷ v) v) e

-- a test that passes over the news of entities that are taken out
pub taken_out : (p : TripSaid → Bool) (s : EntitySaid → Bool) (entities : List EntitySaid) → ((e : EntitySaid) → Contains entities e → s e ≡ false → (n : TripSaid) → e.news ≡ Some n → p n ≡ false)
    → filter p (news_in entities) ≡ filter p (news_in (filter s entities))
taken_out p s [] so = refl
taken_out p s (e ∷ rest) so = step (s e) e.news refl refl (taken_out p s rest (λ x there. so x (Contains-there e rest x there))) where
  step : (b : Bool) (o : Option TripSaid) → s e ≡ b → e.news ≡ o → filter p (news_in rest) ≡ filter p (news_in (filter s rest))
      → filter p (cons_option e.news (news_in rest)) ≡ filter p (news_in (cond (s e) (e ∷ filter s rest) (filter s rest)))
  step true o f g behind =
      both_more p e.news (news_in rest) (news_in (filter s rest)) behind ∙ sym (ap (λ b. filter p (news_in (cond b (e ∷ filter s rest) (filter s rest)))) f)
  step false None f g behind =
      ap (λ o. filter p (cons_option o (news_in rest))) g ∙ behind ∙ sym (ap (λ b. filter p (news_in (cond b (e ∷ filter s rest) (filter s rest)))) f)
  step false (Some n) f g behind =
      ap (λ o. filter p (cons_option o (news_in rest))) g
      ∙ ap (λ b. cond b (n ∷ filter p (news_in rest)) (filter p (news_in rest))) (so e (Contains-here e rest) f n g)
      ∙ behind
      ∙ sym (ap (λ b. filter p (news_in (cond b (e ∷ filter s rest) (filter s rest)))) f)

-- a test that passes over all news
pub none_pass : (p : TripSaid → Bool) (entities : List EntitySaid) → ((e : EntitySaid) → Contains entities e → (n : TripSaid) → e.news ≡ Some n → p n ≡ false) → filter p (news_in entities) ≡ []
none_pass p [] so = refl
none_pass p (e ∷ rest) so = step e.news refl (none_pass p rest (λ x there. so x (Contains-there e rest x there))) where
  step : (o : Option TripSaid) → e.news ≡ o → filter p (news_in rest) ≡ [] → filter p (cons_option e.news (news_in rest)) ≡ []
  step None g behind = ap (λ o. filter p (cons_option o (news_in rest))) g ∙ behind
  step (Some n) g behind =
      ap (λ o. filter p (cons_option o (news_in rest))) g ∙ ap (λ b. cond b (n ∷ filter p (news_in rest)) (filter p (news_in rest))) (so e (Contains-here e rest) n g) ∙ behind

first_misses : (q : TripSaid → Bool) (o : Option TripSaid) (xs : List TripSaid) → list_any q (cons_option o xs) ≡ false → (n : TripSaid) → o ≡ Some n → q n ≡ false
first_misses q None xs none n is = absurd (cc)
first_misses q (Some m) xs none n is = let one : m ≡ n = cc in ap q (sym one) ∙ (or_parts (q m) (list_any q xs) none).0

rest_misses : (q : TripSaid → Bool) (o : Option TripSaid) (xs : List TripSaid) → list_any q (cons_option o xs) ≡ false → list_any q xs ≡ false
rest_misses q None xs none = none
rest_misses q (Some m) xs none = (or_parts (q m) (list_any q xs) none).1

any_misses : (q : TripSaid → Bool) (entities : List EntitySaid) → list_any q (news_in entities) ≡ false → (e : EntitySaid) → Contains entities e → (n : TripSaid) → e.news ≡ Some n → q n ≡ false
any_misses q [] none e there n is = absurd (Contains-nil e there)
any_misses q (first ∷ rest) none e there n is = elim (Contains-cases first rest e there) [
  | inl same ↦ first_misses q first.news (news_in rest) none n (ap (λ (x : EntitySaid). x.news) same ∙ is)
  | inr behind ↦ any_misses q rest (rest_misses q first.news (news_in rest) none) e behind n is
]

alike_test : (p : TripSaid → Bool) (out : List ℕ → Bool) (entities touched own : List EntitySaid) → TakesOut out entities touched own
    → ((e : EntitySaid) → Contains touched e → (n : TripSaid) → e.news ≡ Some n → p n ≡ false) → filter p (news_in entities) ≡ filter p (news_in (filter (stays out) entities ++ own))
alike_test p out entities touched own takes so =
    let kept = filter (stays out) entities in
    taken_out p (stays out) entities (λ e there gone n is. so e (takes.gone e there (not-false (out e.id) gone)) n is)
    ∙ sym (append-nil (filter p (news_in kept)))
    ∙ ap (λ v. filter p (news_in kept) ++ v) (sym (none_pass p own (λ e there n is. so e (takes.begun e there) n is)))
    ∙ sym (filter-append p (news_in kept) (news_in own))
    ∙ ap (filter p) (sym (filter_map-append (λ (e : EntitySaid). e.news) kept own))

-- what is in force before a message and after it differs by the entities that are touched
pub differ_by : (out : List ℕ → Bool) (entities touched own : List EntitySaid) → TakesOut out entities touched own → DifferBy (news_in touched) (news_in entities) (news_in (filter (stays out) entities ++ own))
differ_by out entities touched own takes = λ key none.
    let untouched = any_misses (touches key) touched none in
    record {
      named = alike_test (names_run key) out entities touched own takes (λ e there n is. (or_parts (names_run key n) (has_key key n) (untouched e there n is)).0);
      of_key = alike_test (has_key key) out entities touched own takes (λ e there n is. (or_parts (names_run key n) (has_key key n) (untouched e there n is)).1);
    }
