-- Entities that go in one after the other, and all at once.
use Rattle.std.proofs.Common.{◌≡◌, List, [], ◌∷◌, ◌++◌, filter, Bool, true, false, cond, not, Option, Some, None, refl, sym, ap, ap₂, ◌∙◌}
use Rattle.std.specs.Prelude.{if◌then◌else◌, ◌&&◌, ◌||◌, is_some}
use Rattle.std.proofs.lemmas.List.{append-nil, append_assoc}
use Rattle.std.proofs.lemmas.List.Elements.{filter-append}
use Rattle.lc_model.specs.Change.{is_same_id}
use Rattle.lc_model.specs.Versions.History.{put, with_news}
use Rattle.lc_model.specs.Versions.News.{EntitySaid, TripSaid}
use Rattle.version_store.specs.IndexLaws.Kept.{PutAtOnce, has_id, last_of_ids}

one_test : {X : Type 0} (p q r : X → Bool) (x : X) (xs : List X) → filter p (filter q xs) ≡ filter r xs → (b c d : Bool) → q x ≡ b → p x ≡ c → r x ≡ d → r x ≡ (q x && p x)
    → filter p (cond b (x ∷ filter q xs) (filter q xs)) ≡ cond d (x ∷ filter r xs) (filter r xs)
one_test p q r x xs rest true true d e f g h = let is : d ≡ true = sym g ∙ h ∙ ap₂ (λ s t. s && t) e f in rw (f, is) (ap (λ v. x ∷ v) rest)
one_test p q r x xs rest true false d e f g h = let is : d ≡ false = sym g ∙ h ∙ ap₂ (λ s t. s && t) e f in rw (f, is) rest
one_test p q r x xs rest false c d e f g h = let is : d ≡ false = sym g ∙ h ∙ ap (λ s. s && p x) e in rw is rest

filter_twice : {X : Type 0} (p q r : X → Bool) → ((x : X) → r x ≡ (q x && p x)) → (xs : List X) → filter p (filter q xs) ≡ filter r xs
filter_twice p q r both [] = refl
filter_twice p q r both (x ∷ xs) = one_test p q r x xs (filter_twice p q r both xs) (q x) (p x) (r x) refl refl refl (both x)

not_either : (a b : Bool) → not (a || b) ≡ (not a && not b)
not_either true b = refl
not_either false b = refl

-- entities whose ids none of these has
abbrev Stays : List EntitySaid → EntitySaid → Bool
Stays entities e = not (has_id e.id entities)

-- an entity before others: it goes in if none of them has its id, and it has news
one_in : (e : EntitySaid) (rest : List EntitySaid) (news : Option TripSaid) (taken : Bool) → e.news ≡ news → has_id e.id rest ≡ taken
    → filter (Stays rest) (if is_some news then e ∷ [] else []) ++ with_news (last_of_ids rest) ≡ with_news (if taken then last_of_ids rest else e ∷ last_of_ids rest)
one_in e rest None true f g = refl
one_in e rest None false f g = ap (λ n. if is_some n then e ∷ with_news (last_of_ids rest) else with_news (last_of_ids rest)) (sym f)
one_in e rest (Some news) true f g = ap (λ b. (if not b then e ∷ [] else []) ++ with_news (last_of_ids rest)) g
one_in e rest (Some news) false f g =
    ap (λ b. (if not b then e ∷ [] else []) ++ with_news (last_of_ids rest)) g
    ∙ ap (λ n. if is_some n then e ∷ with_news (last_of_ids rest) else with_news (last_of_ids rest)) (sym f)

pub put_at_once : PutAtOnce
put_at_once kept [] = sym (append-nil (filter (Stays []) kept) ∙ all_stay kept) where
  all_stay : (kept : List EntitySaid) → filter (Stays []) kept ≡ kept
  all_stay [] = refl
  all_stay (e ∷ rest) = ap (λ v. e ∷ v) (all_stay rest)
put_at_once kept (e ∷ rest) =
    let others = filter (λ (x : EntitySaid). not (is_same_id x.id e.id)) kept in
    let behind = with_news (last_of_ids rest) in
    put_at_once (put kept e) rest
    ∙ ap (λ v. v ++ behind)
    (filter-append (Stays rest) others (with_news (e ∷ []))
    ∙ ap (λ v. v ++ filter (Stays rest) (with_news (e ∷ [])))
    (filter_twice (Stays rest) (λ (x : EntitySaid). not (is_same_id x.id e.id)) (Stays (e ∷ rest)) (λ x. not_either (is_same_id x.id e.id) (has_id x.id rest)) kept))
    ∙ append_assoc (filter (Stays (e ∷ rest)) kept) (filter (Stays rest) (with_news (e ∷ []))) behind
    ∙ ap (λ v. filter (Stays (e ∷ rest)) kept ++ v) (one_in e rest e.news (has_id e.id rest) refl refl)
