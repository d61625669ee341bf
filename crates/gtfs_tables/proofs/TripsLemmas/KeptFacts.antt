-- Lists of which some items are kept.
use Rattle.std.proofs.Common.{◌≡◌, ◌∙◌, ◌≤◌, Bool, true, false, cond, List, [], ◌∷◌, Option, Some, None, ap, arith, length, refl, subst, suc, zero}
use Rattle.std.proofs.lemmas.List.Elements.{All-cons, All-head, All-tail}
use Rattle.std.specs.Prelude.{filter}
use Rattle.std.specs.List.{All, AllPairs, cons_option, filter_map}

module _ {X : Type 0} (R : X → X → Type 0) where
  pairs_tail : (x : X) (xs : List X) → AllPairs R (x ∷ xs) → AllPairs R xs
  pairs_tail x xs h i j d before inside = h (suc i) (suc j) d (omega arith) (omega arith)

  pairs_head : (x : X) (xs : List X) → AllPairs R (x ∷ xs) → All (R x) xs
  pairs_head x xs h k d inside = h 0 (suc k) d (omega arith) (omega arith)

  pub pairs_cons : (x : X) (xs : List X) → All (R x) xs → AllPairs R xs → AllPairs R (x ∷ xs)
  pairs_cons x xs head tail zero zero d before inside = absurd (omega arith)
  pairs_cons x xs head tail zero (suc j) d before inside = head j d (omega arith)
  pairs_cons x xs head tail (suc i) zero d before inside = absurd (omega arith)
  pairs_cons x xs head tail (suc i) (suc j) d before inside = tail i j d (omega arith) (omega arith)

none_pairs : {X : Type 0} (R : X → X → Type 0) → AllPairs R []
none_pairs R i j d before inside = absurd (omega arith)

none_all : {X : Type 0} (P : X → Type 0) → All P []
none_all P k d inside = absurd (omega arith)

module _ {X Y : Type 0} (f : X → Option Y) where
  -- what holds of each item holds of each that is kept
  pub all_kept : (P : X → Type 0) (Q : Y → Type 0) → ((x : X) (y : Y) → f x ≡ Some y → P x → Q y) → (xs : List X) → All P xs → All Q (filter_map f xs)
  all_kept P Q gives [] all = none_all Q
  all_kept P Q gives (x ∷ xs) all = by_item (f x) refl (all_kept P Q gives xs (All-tail P x xs all))
    where
      by_item : (o : Option Y) → f x ≡ o → All Q (filter_map f xs) → All Q (cons_option o (filter_map f xs))
      by_item None is rest = rest
      by_item (Some y) is rest = All-cons Q y (filter_map f xs) (gives x y is (All-head P x xs all)) rest

  -- what holds of each pair of items, the earlier first, holds of each pair of those that are kept
  pub pairs_kept : (R : X → X → Type 0) (S : Y → Y → Type 0) → ((x x' : X) (y y' : Y) → f x ≡ Some y → f x' ≡ Some y' → R x x' → S y y') → (xs : List X)
      → AllPairs R xs → AllPairs S (filter_map f xs)
  pairs_kept R S gives [] all = none_pairs S
  pairs_kept R S gives (x ∷ xs) all = by_item (f x) refl (pairs_kept R S gives xs (pairs_tail R x xs all))
    where
      by_item : (o : Option Y) → f x ≡ o → AllPairs S (filter_map f xs) → AllPairs S (cons_option o (filter_map f xs))
      by_item None is rest = rest
      by_item (Some y) is rest =
          pairs_cons S y (filter_map f xs) (all_kept (R x) (S y) (λ x' y' is' r. gives x x' y y' is is' r) xs (pairs_head R x xs all)) rest

filter_as_map : {X : Type 0} (p : X → Bool) (xs : List X) → filter_map (λ x. cond (p x) (Some x) None) xs ≡ filter p xs
filter_as_map p [] = refl
filter_as_map {X} p (x ∷ xs) = by_test (p x) (filter_as_map p xs)
  where
    by_test : (b : Bool) → filter_map (λ z. cond (p z) (Some z) None) xs ≡ filter p xs
        → cons_option (cond b (Some x) None) (filter_map (λ z. cond (p z) (Some z) None) xs) ≡ cond b (x ∷ filter p xs) (filter p xs)
    by_test true e = ap (λ l. x ∷ l) e
    by_test false e = e

passed : {X : Type 0} (b : Bool) (x y : X) → cond b (Some x) None ≡ Some y → x ≡ y
passed true x y e = cc
passed false x y e = cc

-- what holds of each pair of items holds of each pair of those that pass a test
pub pairs_filtered : {X : Type 0} (R : X → X → Type 0) (p : X → Bool) (xs : List X) → AllPairs R xs → AllPairs R (filter p xs)
pairs_filtered {X} R p xs all =
    subst (AllPairs R) (filter_as_map p xs)
    (pairs_kept (λ x. cond (p x) (Some x) None) R R
    (λ x x' y y' is is' r. subst (λ z. R z y') (passed (p x) x y is) (subst (λ z. R x z) (passed (p x') x' y' is') r)) xs all)

-- two tests that agree keep the same items
pub filter_same : {X : Type 0} (p q : X → Bool) → ((x : X) → p x ≡ q x) → (xs : List X) → filter p xs ≡ filter q xs
filter_same p q same [] = refl
filter_same p q same (x ∷ xs) = ap (λ b. cond b (x ∷ filter p xs) (filter p xs)) (same x) ∙ ap (λ l. cond (q x) (x ∷ l) l) (filter_same p q same xs)

pub filter_map_same : {X Y : Type 0} (f g : X → Option Y) → ((x : X) → f x ≡ g x) → (xs : List X) → filter_map f xs ≡ filter_map g xs
filter_map_same f g same [] = refl
filter_map_same f g same (x ∷ xs) = ap (λ o. cons_option o (filter_map f xs)) (same x) ∙ ap (λ l. cons_option (g x) l) (filter_map_same f g same xs)

-- no more items pass than there are
pub filter_shorter : {X : Type 0} (p : X → Bool) (xs : List X) → length (filter p xs) ≤ length xs
filter_shorter p [] = omega arith
filter_shorter {X} p (x ∷ xs) = by_test (p x) (filter_shorter p xs)
  where
    by_test : (b : Bool) → length (filter p xs) ≤ length xs → length (cond b (x ∷ filter p xs) (filter p xs)) ≤ length (x ∷ xs)
    by_test true h = omega arith
    by_test false h = omega arith
