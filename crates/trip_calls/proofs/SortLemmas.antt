-- Items of which no two tie are strictly in order in some list.
use Rattle.std.proofs.Common.{◌≡◌, ◌≢◌, ◌∙◌, List, [], ◌∷◌, ap, refl}
use Rattle.std.specs.Cmp.{IsTotalOrder}
use Rattle.std.specs.List.{All}
use Rattle.std.specs.List.Sorted.{IsPermutation}
use Rattle.std.specs.Ordering.{ordering_reverse}
use Rattle.std.specs.declared.cmp.Ordering.{Ordering}
use Rattle.std.specs.declared.cmp.Ordering.TheVariants.{Less, Equal, Greater}
use Rattle.std.proofs.lemmas.List.Elements.{All-cons, All-head, All-nil, All-tail, All-weaker}
use Rattle.std.proofs.lemmas.List.Kept.{AllPairs-cons}
use Rattle.std.proofs.lemmas.List.Sorted.{All-permutation, IsPermutation-cons, IsPermutation-middle, IsPermutation-refl, IsPermutation-sym, IsPermutation-trans}
use Rattle.lc_model.specs.Order.{AreApart, IsStrict}
use Rattle.lc_model.proofs.ListLemmas.{AllPairs-head, AllPairs-nil, AllPairs-tail}

-- of an item and a list with a first one, the list in order, by how the two compare
abbrev put : {X : Type 0} → Ordering → X → X → List X → List X → List X
put Less x y ys rest = x ∷ y ∷ ys
put Equal x y ys rest = y ∷ rest
put Greater x y ys rest = y ∷ rest

-- the item among others that are in order
abbrev pub place : {X : Type 0} → (X → X → Ordering) → X → List X → List X
place cmp x [] = x ∷ []
place cmp x (y ∷ ys) = put (cmp x y) x y ys (place cmp x ys)

-- the items in order
abbrev pub in_order : {X : Type 0} → (X → X → Ordering) → List X → List X
in_order cmp [] = []
in_order cmp (x ∷ xs) = place cmp x (in_order cmp xs)

swapped : {X : Type 0} (x y : X) (ys : List X) → IsPermutation (x ∷ y ∷ ys) (y ∷ x ∷ ys)
swapped x y ys = IsPermutation-sym (y ∷ x ∷ ys) (x ∷ y ∷ ys) (IsPermutation-middle (y ∷ []) x ys)

put_moved : {X : Type 0} (o : Ordering) (x y : X) (ys rest : List X) → IsPermutation (x ∷ ys) rest → IsPermutation (x ∷ y ∷ ys) (put o x y ys rest)
put_moved Less x y ys rest h = IsPermutation-refl (x ∷ y ∷ ys)
put_moved Equal x y ys rest h = IsPermutation-trans (x ∷ y ∷ ys) (y ∷ x ∷ ys) (y ∷ rest) (swapped x y ys) (IsPermutation-cons y (x ∷ ys) rest h)
put_moved Greater x y ys rest h = IsPermutation-trans (x ∷ y ∷ ys) (y ∷ x ∷ ys) (y ∷ rest) (swapped x y ys) (IsPermutation-cons y (x ∷ ys) rest h)

place_moved : {X : Type 0} (cmp : X → X → Ordering) (x : X) (xs : List X) → IsPermutation (x ∷ xs) (place cmp x xs)
place_moved cmp x [] = IsPermutation-refl (x ∷ [])
place_moved cmp x (y ∷ ys) = put_moved (cmp x y) x y ys (place cmp x ys) (place_moved cmp x ys)

pub in_order_moved : {X : Type 0} (cmp : X → X → Ordering) (xs : List X) → IsPermutation xs (in_order cmp xs)
in_order_moved cmp [] = IsPermutation-refl []
in_order_moved cmp (x ∷ xs) =
    IsPermutation-trans (x ∷ xs) (x ∷ in_order cmp xs) (place cmp x (in_order cmp xs)) (IsPermutation-cons x xs (in_order cmp xs) (in_order_moved cmp xs)) (place_moved cmp x (in_order cmp xs))

module _ {X : Type 0} (cmp : X → X → Ordering) (total : IsTotalOrder cmp) where
  put_strict : (o : Ordering) (x y : X) (ys rest : List X) → cmp x y ≡ o → cmp x y ≢ Equal → IsPermutation (x ∷ ys) rest → IsStrict cmp (y ∷ ys) → IsStrict cmp rest → IsStrict cmp (put o x y ys rest)
  put_strict Less x y ys rest e apart moved strict more =
      let later = AllPairs-head (λ a b. cmp a b ≡ Less) y ys strict in
      AllPairs-cons (λ a b. cmp a b ≡ Less) x (y ∷ ys)
      (All-cons (λ z. cmp x z ≡ Less) y ys e (All-weaker (λ z. cmp y z ≡ Less) (λ z. cmp x z ≡ Less) (λ z lt. total.trans x y z e lt) ys later))
      strict
  put_strict Equal x y ys rest e apart moved strict more = absurd (apart e)
  put_strict Greater x y ys rest e apart moved strict more =
      let back : cmp y x ≡ Less = total.antisymm y x ∙ ap ordering_reverse e in
      AllPairs-cons (λ a b. cmp a b ≡ Less) y rest
      (All-permutation (λ z. cmp y z ≡ Less) (x ∷ ys) rest moved (All-cons (λ z. cmp y z ≡ Less) x ys back (AllPairs-head (λ a b. cmp a b ≡ Less) y ys strict)))
      more

  place_strict : (x : X) (xs : List X) → All (λ y. cmp x y ≢ Equal) xs → IsStrict cmp xs → IsStrict cmp (place cmp x xs)
  place_strict x [] apart strict = AllPairs-cons (λ a b. cmp a b ≡ Less) x [] (All-nil (λ z. cmp x z ≡ Less)) (AllPairs-nil (λ a b. cmp a b ≡ Less))
  place_strict x (y ∷ ys) apart strict =
      put_strict (cmp x y) x y ys (place cmp x ys) refl (All-head (λ z. cmp x z ≢ Equal) y ys apart) (place_moved cmp x ys) strict
      (place_strict x ys (All-tail (λ z. cmp x z ≢ Equal) y ys apart) (AllPairs-tail (λ a b. cmp a b ≡ Less) y ys strict))

  pub in_order_strict : (xs : List X) → AreApart cmp xs → IsStrict cmp (in_order cmp xs)
  in_order_strict [] apart = AllPairs-nil (λ a b. cmp a b ≡ Less)
  in_order_strict (x ∷ xs) apart =
      place_strict x (in_order cmp xs)
      (All-permutation (λ y. cmp x y ≢ Equal) xs (in_order cmp xs) (in_order_moved cmp xs) (AllPairs-head (λ a b. cmp a b ≢ Equal) x xs apart))
      (in_order_strict xs (AllPairs-tail (λ a b. cmp a b ≢ Equal) x xs apart))
