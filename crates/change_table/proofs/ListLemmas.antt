-- What is in lists that are mapped, filtered and joined, and the first item that passes a test.
use Rattle.std.proofs.Common.{◌≡◌, suc, zero, ◌⊎◌, inl, inr, List, [], ◌∷◌, ◌++◌, Option, Some, None, get_or, map, Bool, true, false, cond, ◌&&◌, sym, ap, ◌∙◌, subst, refl, arith}
use Rattle.std.specs.Prelude.{find, option_map}
use Rattle.std.specs.List.{All, AllPairs, Contains, cons_option, filter, filter_map, flat_map, slice_get}
use Rattle.std.specs.List.Sorted.{IsPermutation, IsStableBy, ties}
use Rattle.std.proofs.lemmas.List.Elements.{All-append, All-contains, Contains-append_cases, Contains-append_left, Contains-append_right, All-contains_itself}
use Rattle.std.proofs.lemmas.List.Kept.{AllPairs-cons}
use Rattle.std.proofs.lemmas.List.Sorted.{Contains-permutation, IsPermutation-sym}
use Rattle.lc_model.proofs.ListLemmas.{All-from_contains, AllPairs-head, AllPairs-nil, AllPairs-tail, Contains-cases, Contains-here, Contains-nil, Contains-there, IsKept}

-- an item that a function makes of those for which it makes one
pub record IsMade {X Y : Type 0} (f : X → Option Y) (xs : List X) (y : Y) : Type 0 where
  pub from : X
  pub stands : Contains xs from
  pub is : f from ≡ Some y

pub IsMade-filter_map : {X Y : Type 0} (f : X → Option Y) (xs : List X) (y : Y) → Contains (filter_map f xs) y → IsMade f xs y
IsMade-filter_map f [] y h = absurd (Contains-nil y h)
IsMade-filter_map {X} {Y} f (x ∷ xs) y h = go (f x) refl (λ k. IsMade-filter_map f xs y k) h where
  behind : IsMade f xs y → IsMade f (x ∷ xs) y
  behind r = record { from = r.from; stands = Contains-there x xs r.from r.stands; is = r.is }

  go : (o : Option Y) → f x ≡ o → (Contains (filter_map f xs) y → IsMade f xs y) → Contains (cons_option o (filter_map f xs)) y → IsMade f (x ∷ xs) y
  go None e rest k = behind (rest k)
  go (Some z) e rest k = elim (Contains-cases z (filter_map f xs) y k) [
    | inl same ↦ record { from = x; stands = Contains-here x xs; is = e ∙ ap Some same }
    | inr m ↦ behind (rest m)
  ]

pub Contains-filter_map : {X Y : Type 0} (f : X → Option Y) (xs : List X) (x : X) (y : Y) → Contains xs x → f x ≡ Some y → Contains (filter_map f xs) y
Contains-filter_map f [] x y h e = absurd (Contains-nil x h)
Contains-filter_map {X} {Y} f (z ∷ xs) x y h e = elim (Contains-cases z xs x h) [
  | inl same ↦ subst (λ o. Contains (cons_option o (filter_map f xs)) y) (sym (ap f same ∙ e)) (Contains-here y (filter_map f xs))
  | inr m ↦ go (f z) (Contains-filter_map f xs x y m e)
] where
  go : (o : Option Y) → Contains (filter_map f xs) y → Contains (cons_option o (filter_map f xs)) y
  go None k = k
  go (Some w) k = Contains-there w (filter_map f xs) y k

-- pairs of what a function makes of those for which it makes one
pub AllPairs-filter_map : {X Y : Type 0} (R : Y → Y → Type 0) (S : X → X → Type 0) (f : X → Option Y) (xs : List X) → ((x z : X) (y w : Y) → S x z → f x ≡ Some y → f z ≡ Some w → R y w) → AllPairs S xs → AllPairs R (filter_map f xs)
AllPairs-filter_map R S f [] across h = AllPairs-nil R
AllPairs-filter_map {X} {Y} R S f (x ∷ xs) across h = go (f x) refl (AllPairs-filter_map R S f xs across (AllPairs-tail S x xs h)) where
  go : (o : Option Y) → f x ≡ o → AllPairs R (filter_map f xs) → AllPairs R (cons_option o (filter_map f xs))
  go None e rest = rest
  go (Some y) e rest = AllPairs-cons R y (filter_map f xs)
      (All-from_contains (R y) (filter_map f xs) (λ w k. let r = IsMade-filter_map f xs w k in across x r.from y w (All-contains (S x) xs r.from (AllPairs-head S x xs h) r.stands) e r.is))
      rest

-- the first item that passes is in the list, and passes
pub IsKept-find : {X : Type 0} (p : X → Bool) (xs : List X) (x : X) → find p xs ≡ Some x → IsKept p xs x
IsKept-find p [] x e = absurd (cc)
IsKept-find {X} p (y ∷ ys) x e = go (p y) refl (λ is. IsKept-find p ys x is) e where
  go : (b : Bool) → p y ≡ b → (find p ys ≡ Some x → IsKept p ys x) → cond b (Some y) (find p ys) ≡ Some x → IsKept p (y ∷ ys) x
  go true passes rest is = let same : y ≡ x = cc in record { stands = subst (λ v. Contains (y ∷ ys) v) same (Contains-here y ys); passes = ap p (sym same) ∙ passes }
  go false fails rest is = let r = rest is in record { stands = Contains-there y ys x r.stands; passes = r.passes }

-- where something passes, something is found
pub find_none : {X : Type 0} (p : X → Bool) (xs : List X) (x : X) → find p xs ≡ None → Contains xs x → p x ≡ true → ⊥
find_none p [] x e h passes = Contains-nil x h
find_none {X} p (y ∷ ys) x e h passes = go (p y) refl (λ is k. find_none p ys x is k passes) e where
  go : (b : Bool) → p y ≡ b → (find p ys ≡ None → Contains ys x → ⊥) → cond b (Some y) (find p ys) ≡ None → ⊥
  go true here rest is = absurd (cc)
  go false fails rest is = elim (Contains-cases y ys x h) [
    | inl same ↦ let f : false ≡ true = sym fails ∙ ap p same ∙ passes in absurd (cc)
    | inr k ↦ rest is k
  ]

pub find-map : {X Y : Type 0} (f : X → Y) (p : Y → Bool) (xs : List X) → find p (map f xs) ≡ option_map f (find (λ x. p (f x)) xs)
find-map f p [] = refl
find-map {X} {Y} f p (x ∷ xs) = go (p (f x)) (find-map f p xs) where
  go : (b : Bool) → find p (map f xs) ≡ option_map f (find (λ x. p (f x)) xs) → cond b (Some (f x)) (find p (map f xs)) ≡ option_map f (cond b (Some x) (find (λ x. p (f x)) xs))
  go true rest = refl
  go false rest = rest

pub find-filter : {X : Type 0} (p q : X → Bool) (xs : List X) → find q (filter p xs) ≡ find (λ x. p x && q x) xs
find-filter p q [] = refl
find-filter {X} p q (x ∷ xs) = go (p x) (find-filter p q xs) where
  go : (b : Bool) → find q (filter p xs) ≡ find (λ x. p x && q x) xs → find q (cond b (x ∷ filter p xs) (filter p xs)) ≡ cond (b && q x) (Some x) (find (λ x. p x && q x) xs)
  go true rest = ap (λ o. cond (q x) (Some x) o) rest
  go false rest = rest

pub find_same : {X : Type 0} (p q : X → Bool) (xs : List X) → ((x : X) → p x ≡ q x) → find p xs ≡ find q xs
find_same p q [] same = refl
find_same p q (x ∷ xs) same = ap (λ b. cond b (Some x) (find p xs)) (same x) ∙ ap (λ o. cond (q x) (Some x) o) (find_same p q xs same)

pub find_first : {X : Type 0} (p : X → Bool) (xs : List X) → find p xs ≡ slice_get (filter p xs) 0
find_first p [] = refl
find_first {X} p (x ∷ xs) = go (p x) (find_first p xs) where
  go : (b : Bool) → find p xs ≡ slice_get (filter p xs) 0 → cond b (Some x) (find p xs) ≡ slice_get (cond b (x ∷ filter p xs) (filter p xs)) 0
  go true rest = refl
  go false rest = rest

filter_same : {X : Type 0} (p q : X → Bool) (xs : List X) → ((x : X) → p x ≡ q x) → filter p xs ≡ filter q xs
filter_same p q [] same = refl
filter_same p q (x ∷ xs) same = ap (λ b. cond b (x ∷ filter p xs) (filter p xs)) (same x) ∙ ap (λ v. cond (q x) (x ∷ v) v) (filter_same p q xs same)

-- a stable sort leaves the first of those that tie
pub find_stable : {X : Type 0} (lt : X → X → Bool) (p : X → Bool) (xs ys : List X) → IsStableBy lt xs ys → IsPermutation xs ys
    → ((x y : X) → p x ≡ true → ties lt x y ≡ p y) → find p ys ≡ find p xs
find_stable {X} lt p xs ys stable moved alike = go (find p xs) refl (find p ys) refl where
  go : (a : Option X) → find p xs ≡ a → (b : Option X) → find p ys ≡ b → find p ys ≡ find p xs
  go (Some x) e b f =
      let found = IsKept-find p xs x e in
      let same : filter p ys ≡ filter p xs = filter_same p (ties lt x) ys (λ y. sym (alike x y found.passes)) ∙ stable x ∙ filter_same (ties lt x) p xs (λ y. alike x y found.passes) in
      find_first p ys ∙ ap (λ v. slice_get v 0) same ∙ sym (find_first p xs)
  go None e None f = f ∙ sym e
  go None e (Some y) f =
      let found = IsKept-find p ys y f in
      absurd (find_none p xs y e (Contains-permutation ys xs y (IsPermutation-sym xs ys moved) found.stands) found.passes)
