-- Pairs of a list and pairs of the keys of its items.
use Rattle.std.proofs.Common.{◌↔◌, Bool, IfOk, IsTrue, Result, Ok, Err, ◌≡◌, ◌≢◌, ◌∙◌, ◌<◌, List, [], ◌∷◌, length, get_or, map, arith, ap, refl, subst, sym}
use Rattle.std.proofs.lemmas.Cmp.{tied_itself}
use Rattle.std.proofs.lemmas.List.{get_or-map, length-map}
use Rattle.std.proofs.lemmas.Map.Lookups.{CmpEqualImpliesEq}
use Rattle.std.specs.Cmp.{IsTotalOrder}
use Rattle.std.specs.List.{AllPairs}
use Rattle.std.specs.declared.cmp.Ordering.{Ordering}
use Rattle.std.specs.declared.cmp.Ordering.TheVariants.{Equal}
use Rattle.lc_model.specs.Order.{AreApart}

pub map-map : {A B C : Type 0} (g : B → C) (f : A → B) (xs : List A) → map g (map f xs) ≡ map (λ x. g (f x)) xs
map-map g f [] = refl
map-map g f (x ∷ xs) = ap (λ l. g (f x) ∷ l) (map-map g f xs)

pub pairs_of_items : {X Y : Type 0} (R : Y → Y → Type 0) (key : X → Y) (xs : List X) → AllPairs R (map key xs) → AllPairs (λ x y. R (key x) (key y)) xs
pairs_of_items R key xs h i j d before inside =
    let size = length-map xs key in
    let first : i < length xs = omega arith in
    let at_i : get_or (map key xs) i (key d) ≡ key (get_or xs i d) = get_or-map key xs i d (key d) first in
    let at_j : get_or (map key xs) j (key d) ≡ key (get_or xs j d) = get_or-map key xs j d (key d) inside in
    subst (λ v. R v (key (get_or xs j d))) at_i (subst (λ v. R (get_or (map key xs) i (key d)) v) at_j (h i j (key d) before (omega arith)))

pub pairs_of_keys : {X Y : Type 0} (R : Y → Y → Type 0) (key : X → Y) (xs : List X) → AllPairs (λ x y. R (key x) (key y)) xs → AllPairs R (map key xs)
pairs_of_keys R key [] h i j e before inside = absurd (omega arith)
pairs_of_keys {X} R key (x ∷ rest) h i j e before inside = at (x ∷ rest) h inside
  where
    at : (xs : List X) → AllPairs (λ x y. R (key x) (key y)) xs → j < length (map key xs) → R (get_or (map key xs) i e) (get_or (map key xs) j e)
    at xs k within =
        let size = length-map xs key in
        let first : i < length xs = omega arith in
        let second : j < length xs = omega arith in
        let at_i : get_or (map key xs) i e ≡ key (get_or xs i x) = get_or-map key xs i x e first in
        let at_j : get_or (map key xs) j e ≡ key (get_or xs j x) = get_or-map key xs j x e second in
        subst (λ v. R v (get_or (map key xs) j e)) (sym at_i) (subst (λ v. R (key (get_or xs i x)) v) (sym at_j) (k i j x before second))

-- keys that tie exactly where they are one
module _ {Z : Type 0} (cmp : Z → Z → Ordering) (total : IsTotalOrder cmp) (exact : CmpEqualImpliesEq cmp) where
  apart_keys : (keys : List Z) → AreApart cmp keys → AllPairs (λ x y. x ≢ y) keys
  apart_keys keys apart i j d before inside same =
      apart i j d before inside (ap (cmp (get_or keys i d)) (sym same) ∙ tied_itself total (get_or keys i d))

  keys_apart : (keys : List Z) → AllPairs (λ x y. x ≢ y) keys → AreApart cmp keys
  keys_apart keys distinct i j d before inside ties = distinct i j d before inside (exact _ _ ties)

  -- items that have the same keys as others do not tie by them where the keys of the others differ
  pub apart_from_distinct : {X Y : Type 0} (f : X → Z) (g : Y → Z) (xs : List X) (ys : List Y) → map f xs ≡ map g ys
      → AllPairs (λ x y. g x ≢ g y) ys → AreApart (λ x y. cmp (f x) (f y)) xs
  apart_from_distinct f g xs ys same distinct =
      pairs_of_items (λ x y. cmp x y ≢ Equal) f xs (subst (AreApart cmp) (sym same) (keys_apart (map g ys) (pairs_of_keys (λ x y. x ≢ y) g ys distinct)))

  pub distinct_from_apart : {X Y : Type 0} (f : X → Z) (g : Y → Z) (xs : List X) (ys : List Y) → map f xs ≡ map g ys
      → AreApart (λ x y. cmp (f x) (f y)) xs → AllPairs (λ x y. g x ≢ g y) ys
  distinct_from_apart f g xs ys same apart =
      pairs_of_items (λ x y. x ≢ y) g ys (subst (AllPairs (λ x y. x ≢ y)) same (apart_keys (map f xs) (pairs_of_keys (λ x y. cmp x y ≢ Equal) f xs apart)))

  -- a test that answers for the one list answers for the other
  pub apart_iff_distinct : {X Y : Type 0} {E : Type 0} (f : X → Z) (g : Y → Z) (xs : List X) (ys : List Y) (r : Result Bool E) → map f xs ≡ map g ys
      → IfOk r (λ b. IsTrue b ↔ AreApart (λ x y. cmp (f x) (f y)) xs) → IfOk r (λ b. IsTrue b ↔ AllPairs (λ x y. g x ≢ g y) ys)
  apart_iff_distinct f g xs ys (Ok b) same h = ((λ t. distinct_from_apart f g xs ys same (h.0 t)), (λ d. h.1 (apart_from_distinct f g xs ys same d)))
  apart_iff_distinct f g xs ys (Err e) same h = tt
