-- Places of lists: where a list grew by one, and what a filter keeps.
use Rattle.std.proofs.Common.{◌≡◌, ℕ, ◌<◌, ◌⊎◌, suc, zero, List, [], ◌∷◌, ◌++◌, Option, Some, None, Bool, true, false, cond, length, set, refl, sym, ◌∙◌, ap, subst, inl, inr, arith}
use Rattle.std.specs.List.{slice_get, filter}
use Rattle.std.specs.Option.{IsSomeAnd}

-- what a list had, it has when it grew
pub slice_get-append : {X : Type 0} (xs ys : List X) (i : ℕ) (x : X) → slice_get xs i ≡ Some x → slice_get (xs ++ ys) i ≡ Some x
slice_get-append [] ys i x e = absurd (cc)
slice_get-append (y ∷ xs) ys zero x e = e
slice_get-append (y ∷ xs) ys (suc i) x e = slice_get-append xs ys i x e

-- the new item is at the end
pub slice_get-last : {X : Type 0} (xs : List X) (y : X) → slice_get (xs ++ y ∷ []) (length xs) ≡ Some y
slice_get-last [] y = refl
slice_get-last (x ∷ xs) y = slice_get-last xs y

-- an item of the grown list is an old one or the new one
pub push_cases : {X : Type 0} (xs : List X) (y : X) (i : ℕ) (x : X) → slice_get (xs ++ y ∷ []) i ≡ Some x → (slice_get xs i ≡ Some x) ⊎ ((i ≡ length xs) × (x ≡ y))
push_cases [] y zero x e = inr (refl, cc)
push_cases [] y (suc i) x e = absurd (cc)
push_cases (z ∷ xs) y zero x e = inl e
push_cases (z ∷ xs) y (suc i) x e = elim (push_cases xs y i x e) [ inl h ↦ inl h | inr h ↦ inr (ap suc h.0, h.1) ]

-- a write puts the value at its place
pub slice_get-set_same : {X : Type 0} (xs : List X) (i : ℕ) (y : X) → i < length xs → slice_get (set xs i y) i ≡ Some y
slice_get-set_same [] i y h = absurd (omega arith)
slice_get-set_same (x ∷ xs) zero y h = refl
slice_get-set_same (x ∷ xs) (suc i) y h = slice_get-set_same xs i y (omega arith)

-- and leaves the others
pub slice_get-set_other : {X : Type 0} (xs : List X) (i : ℕ) (y : X) (j : ℕ) → (j ≡ i → ⊥) → slice_get (set xs i y) j ≡ slice_get xs j
slice_get-set_other [] i y j h = refl
slice_get-set_other (x ∷ xs) zero y zero h = absurd (h refl)
slice_get-set_other (x ∷ xs) zero y (suc j) h = refl
slice_get-set_other (x ∷ xs) (suc i) y zero h = refl
slice_get-set_other (x ∷ xs) (suc i) y (suc j) h = slice_get-set_other xs i y j (λ e. h (ap suc e))

-- two places are one or not
pub same_place : (i j : ℕ) → (i ≡ j) ⊎ (i ≡ j → ⊥)
same_place zero zero = inl refl
same_place zero (suc j) = inr (λ e. omega arith)
same_place (suc i) zero = inr (λ e. omega arith)
same_place (suc i) (suc j) = elim (same_place i j) [ inl h ↦ inl (ap suc h) | inr h ↦ inr (λ e. h (omega arith)) ]

-- what a written list has is the value at the place, or what was there before
pub set_cases : {X : Type 0} (xs : List X) (i : ℕ) (y : X) (j : ℕ) (x : X) → slice_get (set xs i y) j ≡ Some x → ((j ≡ i) × (x ≡ y)) ⊎ (slice_get xs j ≡ Some x)
set_cases [] i y j x e = inr e
set_cases (z ∷ xs) zero y zero x e = inl (refl, cc)
set_cases (z ∷ xs) zero y (suc j) x e = inr e
set_cases (z ∷ xs) (suc i) y zero x e = inr e
set_cases (z ∷ xs) (suc i) y (suc j) x e = elim (set_cases xs i y j x e) [ inl h ↦ inl (ap suc h.0, h.1) | inr h ↦ inr h ]

-- a place within a list has an item
pub item_within : {X : Type 0} (xs : List X) (i : ℕ) → i < length xs → (x : X) × (slice_get xs i ≡ Some x)
item_within [] i h = absurd (omega arith)
item_within (x ∷ xs) zero h = (x, refl)
item_within (x ∷ xs) (suc i) h = item_within xs i (omega arith)

-- an item of what a filter keeps is one of the list, if that holds of the rest
filter_cases : {X : Type 0} (p : X → Bool) (y : X) (xs : List X) (x : X) (rest : (i : ℕ) (x : X) → slice_get (filter p xs) i ≡ Some x → ((j : ℕ) × (slice_get xs j ≡ Some x)) × (p x ≡ true)) (b : Bool) → p y ≡ b → (i : ℕ) → slice_get (cond b (y ∷ filter p xs) (filter p xs)) i ≡ Some x → ((j : ℕ) × (slice_get (y ∷ xs) j ≡ Some x)) × (p x ≡ true)
filter_cases p y xs x rest true h zero e = ((0, e), (let f : y ≡ x = cc in ap p (sym f) ∙ h))
filter_cases p y xs x rest true h (suc i) e = let r = rest i x e in ((suc r.0.0, r.0.1), r.1)
filter_cases p y xs x rest false h i e = let r = rest i x e in ((suc r.0.0, r.0.1), r.1)

-- what a filter keeps is in the list and passes
pub slice_get-filter : {X : Type 0} (p : X → Bool) (xs : List X) (i : ℕ) (x : X) → slice_get (filter p xs) i ≡ Some x → ((j : ℕ) × (slice_get xs j ≡ Some x)) × (p x ≡ true)
slice_get-filter p [] i x e = absurd (cc)
slice_get-filter p (y ∷ xs) i x e = filter_cases p y xs x (slice_get-filter p xs) (p y) refl i e

-- what a fact of a value in an option says
pub some_and : {X : Type 0} (o : Option X) (P : X → Type 0) → IsSomeAnd o P → (x : X) × (o ≡ Some x) × P x
some_and None P h = absurd h
some_and (Some x) P h = (x, refl, h)

pub to_some_and : {X : Type 0} (o : Option X) (P : X → Type 0) (x : X) → o ≡ Some x → P x → IsSomeAnd o P
to_some_and {X = X} o P x e h = let Q : Option X → Type 0 = λ v. IsSomeAnd v P in subst Q (sym e) h
