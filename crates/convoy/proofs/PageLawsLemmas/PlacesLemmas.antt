-- Places in lists: an item is at a place where `slice_get` gives it.
use Rattle.std.proofs.Common.{◌≡◌, ℕ, zero, suc, ◌<◌, List, [], ◌∷◌, ◌++◌, length, get_or, Bool, true, false, Some, refl, ap, sym, subst, ◌∙◌, ◌⊎◌, inl, inr, cond, arith, filter}
use Rattle.std.specs.List.{All, AllPairs, Contains, slice_get, flat_map}
use Rattle.std.proofs.lemmas.Option.{get_or_from_slice_get, slice_get-get_or}

-- an item is somewhere in the list
abbrev pub Stands : {X : Type 0} → List X → X → Type 0
Stands list x = (place : ℕ) × (slice_get list place ≡ Some x)

-- a place of an item is within the list
pub within : {X : Type 0} (list : List X) (place : ℕ) (x : X) → slice_get list place ≡ Some x → place < length list
within [] place x stands = cc
within (y ∷ list) zero x stands = omega arith
within (y ∷ list) (suc place) x stands = omega (arith, within list place x stands)

pub stands_from_contains : {X : Type 0} (list : List X) (x : X) → Contains list x → Stands list x
stands_from_contains list x (place, below, is) = (place, slice_get-get_or list place x below ∙ ap Some is)

pub contains_from_stands : {X : Type 0} (list : List X) (x : X) → Stands list x → Contains list x
contains_from_stands list x (place, stands) = (place, within list place x stands, get_or_from_slice_get list place x x stands)

-- what holds of all items holds of one at a place
pub all_at : {X : Type 0} (P : X → Type 0) (list : List X) (place : ℕ) (x : X) → All P list → slice_get list place ≡ Some x → P x
all_at P list place x all stands = subst P (get_or_from_slice_get list place x x stands) (all place x (within list place x stands))

-- what holds of all pairs holds of two that are in this order
pub pair_at : {X : Type 0} (R : X → X → Type 0) (list : List X) (i j : ℕ) (x y : X) → AllPairs R list → i < j → slice_get list i ≡ Some x → slice_get list j ≡ Some y → R x y
pair_at R list i j x y pairs before stands_x stands_y =
    let P = λ (a : _). R a y in
    subst (λ a. R a y) (get_or_from_slice_get list i x x stands_x)
    (subst (λ b. R (get_or list i x) b) (get_or_from_slice_get list j y x stands_y) (pairs i j x before (within list j y stands_y)))

-- an item in the rest of a list is in the list
pub later : {X : Type 0} (y x : X) (list : List X) → Stands list x → Stands (y ∷ list) x
later y x list (place, stands) = (suc place, stands)

keeps : {X : Type 0} (b : Bool) (y : X) (rest : List X) → b ≡ true → Stands (cond b (y ∷ rest) rest) y
keeps true y rest passes = (0, refl)
keeps false y rest passes = cc

keeps_rest : {X : Type 0} (b : Bool) (y x : X) (rest : List X) → Stands rest x → Stands (cond b (y ∷ rest) rest) x
keeps_rest true y x rest stands = later y x rest stands
keeps_rest false y x rest stands = stands

-- a filter keeps an item that passes
pub stands_in_filter : {X : Type 0} (p : X → Bool) (list : List X) (place : ℕ) (x : X) → slice_get list place ≡ Some x → p x ≡ true → Stands (filter p list) x
stands_in_filter p [] place x stands passes = cc
stands_in_filter p (y ∷ list) zero x stands passes =
    let same : y ≡ x = cc in
    subst (λ a. Stands (filter p (y ∷ list)) a) same (keeps (p y) y (filter p list) (ap p same ∙ passes))
stands_in_filter p (y ∷ list) (suc place) x stands passes =
    keeps_rest (p y) y x (filter p list) (stands_in_filter p list place x stands passes)

from_cond : {X : Type 0} (p : X → Bool) (y x : X) (list rest : List X) (b : Bool) (place : ℕ) → p y ≡ b → ((k : ℕ) → slice_get rest k ≡ Some x → Stands list x × (p x ≡ true)) → slice_get (cond b (y ∷ rest) rest) place ≡ Some x → Stands (y ∷ list) x × (p x ≡ true)
from_cond p y x list rest true zero passes onward stands =
    let same : y ≡ x = cc in
    ((0, stands), sym (ap p same) ∙ passes)
from_cond p y x list rest true (suc place) passes onward stands =
    let found = onward place stands in
    (later y x list found.0, found.1)
from_cond p y x list rest false place passes onward stands =
    let found = onward place stands in
    (later y x list found.0, found.1)

-- an item that a filter left is in the list and passes
pub stands_from_filter : {X : Type 0} (p : X → Bool) (list : List X) (place : ℕ) (x : X) → slice_get (filter p list) place ≡ Some x → Stands list x × (p x ≡ true)
stands_from_filter p [] place x stands = cc
stands_from_filter p (y ∷ list) place x stands =
    from_cond p y x list (filter p list) (p y) place refl (λ k found. stands_from_filter p list k x found) stands

stands_left : {X : Type 0} (xs ys : List X) (place : ℕ) (x : X) → slice_get xs place ≡ Some x → Stands (xs ++ ys) x
stands_left [] ys place x stands = cc
stands_left (y ∷ xs) ys zero x stands = (0, stands)
stands_left (y ∷ xs) ys (suc place) x stands = later y x (xs ++ ys) (stands_left xs ys place x stands)

stands_right : {X : Type 0} (xs ys : List X) (x : X) → Stands ys x → Stands (xs ++ ys) x
stands_right [] ys x stands = stands
stands_right (y ∷ xs) ys x stands = later y x (xs ++ ys) (stands_right xs ys x stands)

stands_either : {X : Type 0} (xs ys : List X) (place : ℕ) (x : X) → slice_get (xs ++ ys) place ≡ Some x → Stands xs x ⊎ Stands ys x
stands_either [] ys place x stands = inr (place, stands)
stands_either (y ∷ xs) ys zero x stands = inl (0, stands)
stands_either (y ∷ xs) ys (suc place) x stands =
    elim (stands_either xs ys place x stands) [ inl left ↦ inl (later y x xs left) | inr right ↦ inr right ]

-- an item of one of the lists is in all of them
pub stands_in_flat_map : {X A : Type 0} (f : X → List A) (list : List X) (place : ℕ) (x : X) (a : A) → slice_get list place ≡ Some x → Stands (f x) a → Stands (flat_map f list) a
stands_in_flat_map f [] place x a stands inside = cc
stands_in_flat_map f (y ∷ list) zero x a stands inside =
    let same : y ≡ x = cc in
    stands_left (f y) (flat_map f list) inside.0 a (ap (λ z. slice_get (f z) inside.0) same ∙ inside.1)
stands_in_flat_map f (y ∷ list) (suc place) x a stands inside =
    stands_right (f y) (flat_map f list) a (stands_in_flat_map f list place x a stands inside)

-- an item of all the lists is in one of them
pub stands_from_flat_map : {X A : Type 0} (f : X → List A) (list : List X) (a : A) (place : ℕ) → slice_get (flat_map f list) place ≡ Some a → (at : ℕ) × (x : X) × (slice_get list at ≡ Some x) × Stands (f x) a
stands_from_flat_map f [] a place stands = cc
stands_from_flat_map f (y ∷ list) a place stands =
    elim (stands_either (f y) (flat_map f list) place a stands) [
      | inl here ↦ (0, y, refl, here)
      | inr there ↦ (let found = stands_from_flat_map f list a there.0 there.1 in (suc found.0, found.1, found.2, found.3))
    ]
