-- What is in lists that are joined, mapped and filtered, and the part of a list that a test keeps.
use Rattle.std.proofs.Common.{◌≡◌, suc, zero, ◌⊎◌, inl, inr, List, [], ◌∷◌, ◌++◌, get_or, map, Bool, true, false, cond, sym, ap, ◌∙◌, subst, refl, arith}
use Rattle.std.specs.List.{All, AllPairs, Contains, filter, flat_map}
use Rattle.std.proofs.lemmas.List.Elements.{All-append, All-contains, Contains-append_cases, Contains-append_left, Contains-append_right, All-contains_itself}
use Rattle.std.proofs.lemmas.List.Kept.{AllPairs-cons}

pub Contains-here : {X : Type 0} (x : X) (xs : List X) → Contains (x ∷ xs) x
Contains-here x xs = (0, omega arith, refl)

pub Contains-there : {X : Type 0} (y : X) (xs : List X) (x : X) → Contains xs x → Contains (y ∷ xs) x
Contains-there y xs x h = (suc h.0, omega (arith, h.1), h.2)

pub Contains-cases : {X : Type 0} (y : X) (xs : List X) (x : X) → Contains (y ∷ xs) x → (y ≡ x) ⊎ Contains xs x
Contains-cases y xs x (zero, lt, e) = inl e
Contains-cases y xs x (suc k, lt, e) = inr (k, omega (arith, lt), e)

pub Contains-nil : {X : Type 0} (x : X) → Contains [] x → ⊥
Contains-nil x h = omega (arith, h.1)

-- an item of the mapped list comes from one of the list
pub record ComesFrom {X Y : Type 0} (f : X → Y) (xs : List X) (y : Y) : Type 0 where
  pub from : X
  pub stands : Contains xs from
  pub is : f from ≡ y

pub ComesFrom-map : {X Y : Type 0} (f : X → Y) (xs : List X) (y : Y) → Contains (map f xs) y → ComesFrom f xs y
ComesFrom-map f [] y h = absurd (Contains-nil y h)
ComesFrom-map f (x ∷ xs) y h = elim (Contains-cases (f x) (map f xs) y h) [
  | inl e ↦ record { from = x; stands = Contains-here x xs; is = e }
  | inr k ↦ let r = ComesFrom-map f xs y k in record { from = r.from; stands = Contains-there x xs r.from r.stands; is = r.is }
]

pub Contains-map : {X Y : Type 0} (f : X → Y) (xs : List X) (x : X) → Contains xs x → Contains (map f xs) (f x)
Contains-map f [] x h = absurd (Contains-nil x h)
Contains-map f (y ∷ xs) x h = elim (Contains-cases y xs x h) [
  | inl e ↦ subst (λ v. Contains (f y ∷ map f xs) (f v)) e (Contains-here (f y) (map f xs))
  | inr k ↦ Contains-there (f y) (map f xs) (f x) (Contains-map f xs x k)
]

-- an item of lists joined end to end is in one of them
pub record StandsIn {X Y : Type 0} (f : X → List Y) (xs : List X) (y : Y) : Type 0 where
  pub of : X
  pub stands : Contains xs of
  pub within : Contains (f of) y

pub StandsIn-flat_map : {X Y : Type 0} (f : X → List Y) (xs : List X) (y : Y) → Contains (flat_map f xs) y → StandsIn f xs y
StandsIn-flat_map f [] y h = absurd (Contains-nil y h)
StandsIn-flat_map f (x ∷ xs) y h = elim (Contains-append_cases (f x) (flat_map f xs) y h) [
  | inl k ↦ record { of = x; stands = Contains-here x xs; within = k }
  | inr k ↦ let r = StandsIn-flat_map f xs y k in record { of = r.of; stands = Contains-there x xs r.of r.stands; within = r.within }
]

pub Contains-flat_map : {X Y : Type 0} (f : X → List Y) (xs : List X) (x : X) (y : Y) → Contains xs x → Contains (f x) y → Contains (flat_map f xs) y
Contains-flat_map f [] x y h k = absurd (Contains-nil x h)
Contains-flat_map f (z ∷ xs) x y h k = elim (Contains-cases z xs x h) [
  | inl e ↦ Contains-append_left (f z) (flat_map f xs) y (subst (λ v. Contains (f v) y) (sym e) k)
  | inr m ↦ Contains-append_right (f z) (flat_map f xs) y (Contains-flat_map f xs x y m k)
]

pub Contains-filter : {X : Type 0} (p : X → Bool) (xs : List X) (x : X) → Contains xs x → p x ≡ true → Contains (filter p xs) x
Contains-filter p [] x h e = absurd (Contains-nil x h)
Contains-filter p (y ∷ xs) x h e = elim (Contains-cases y xs x h) [
  | inl same ↦ rw (ap p same ∙ e) (subst (λ v. Contains (y ∷ filter p xs) v) same (Contains-here y (filter p xs)))
  | inr k ↦ kept (p y) (Contains-filter p xs x k e)
] where
  kept : (b : Bool) → Contains (filter p xs) x → Contains (cond b (y ∷ filter p xs) (filter p xs)) x
  kept true k = Contains-there y (filter p xs) x k
  kept false k = k

-- the item is in the list, and the test keeps it
pub record IsKept {X : Type 0} (p : X → Bool) (xs : List X) (x : X) : Type 0 where
  pub stands : Contains xs x
  pub passes : p x ≡ true

pub IsKept-filter : {X : Type 0} (p : X → Bool) (xs : List X) (x : X) → Contains (filter p xs) x → IsKept p xs x
IsKept-filter p [] x h = absurd (Contains-nil x h)
IsKept-filter p (y ∷ xs) x h = go (p y) refl (λ k. IsKept-filter p xs x k) h where
  go : (b : Bool) → p y ≡ b → (Contains (filter p xs) x → IsKept p xs x) → Contains (cond b (y ∷ filter p xs) (filter p xs)) x → IsKept p (y ∷ xs) x
  go true e rest k = elim (Contains-cases y (filter p xs) x k) [
    | inl same ↦ record { stands = subst (λ v. Contains (y ∷ xs) v) same (Contains-here y xs); passes = ap p (sym same) ∙ e }
    | inr m ↦ let r = rest m in record { stands = Contains-there y xs x r.stands; passes = r.passes }
  ]
  go false e rest k = let r = rest k in record { stands = Contains-there y xs x r.stands; passes = r.passes }

-- what holds of each item that is in the list
pub All-from_contains : {X : Type 0} (P : X → Type 0) (xs : List X) → ((x : X) → Contains xs x → P x) → All P xs
All-from_contains P xs h = λ k d lt. h (get_or xs k d) (All-contains_itself xs k d lt)

pub AllPairs-tail : {X : Type 0} (R : X → X → Type 0) (x : X) (xs : List X) → AllPairs R (x ∷ xs) → AllPairs R xs
AllPairs-tail R x xs h = λ i j d lt lj. h (suc i) (suc j) d (omega arith) (omega arith)

pub AllPairs-head : {X : Type 0} (R : X → X → Type 0) (x : X) (xs : List X) → AllPairs R (x ∷ xs) → All (R x) xs
AllPairs-head R x xs h = λ k d lt. h 0 (suc k) d (omega arith) (omega arith)

pub AllPairs-nil : {X : Type 0} (R : X → X → Type 0) → AllPairs R []
AllPairs-nil R = λ i j d lt lj. absurd (omega (arith, lj))

pub AllPairs-append : {X : Type 0} (R : X → X → Type 0) (xs ys : List X) → AllPairs R xs → AllPairs R ys → ((x y : X) → Contains xs x → Contains ys y → R x y) → AllPairs R (xs ++ ys)
AllPairs-append R [] ys hx hy across = hy
AllPairs-append R (x ∷ xs) ys hx hy across =
    AllPairs-cons R x (xs ++ ys)
    (All-append (R x) xs ys (AllPairs-head R x xs hx) (All-from_contains (R x) ys (λ y k. across x y (Contains-here x xs) k)))
    (AllPairs-append R xs ys (AllPairs-tail R x xs hx) hy (λ a y ka ky. across a y (Contains-there x xs a ka) ky))

-- pairs of lists joined end to end: those within one list, and those across two
pub AllPairs-flat_map : {X Y : Type 0} (R : Y → Y → Type 0) (S : X → X → Type 0) (f : X → List Y) (xs : List X) → ((x : X) → Contains xs x → AllPairs R (f x)) → ((x z : X) (y w : Y) → S x z → Contains (f x) y → Contains (f z) w → R y w) → AllPairs S xs → AllPairs R (flat_map f xs)
AllPairs-flat_map R S f [] inside across h = AllPairs-nil R
AllPairs-flat_map R S f (x ∷ xs) inside across h =
    AllPairs-append R (f x) (flat_map f xs) (inside x (Contains-here x xs))
    (AllPairs-flat_map R S f xs (λ z k. inside z (Contains-there x xs z k)) across (AllPairs-tail S x xs h))
    (λ y w ky kw. let r = StandsIn-flat_map f xs w kw in across x r.of y w (All-contains (S x) xs r.of (AllPairs-head S x xs h) r.stands) ky r.within)

pub AllPairs-map : {X Y : Type 0} (R : Y → Y → Type 0) (f : X → Y) (xs : List X) → AllPairs (λ x z. R (f x) (f z)) xs → AllPairs R (map f xs)
AllPairs-map R f [] h = AllPairs-nil R
AllPairs-map R f (x ∷ xs) h =
    AllPairs-cons R (f x) (map f xs)
    (All-from_contains (R (f x)) (map f xs) (λ y k. let r = ComesFrom-map f xs y k in subst (R (f x)) r.is (All-contains (λ z. R (f x) (f z)) xs r.from (AllPairs-head (λ a z. R (f a) (f z)) x xs h) r.stands)))
    (AllPairs-map R f xs (AllPairs-tail (λ a z. R (f a) (f z)) x xs h))

-- what holds of all pairs of a list, and of each item
pub AllPairs-weaker : {X : Type 0} (R S : X → X → Type 0) (xs : List X) → ((x y : X) → Contains xs x → Contains xs y → R x y → S x y) → AllPairs R xs → AllPairs S xs
AllPairs-weaker R S xs weaker h = λ i j d lt lj.
    weaker (get_or xs i d) (get_or xs j d) (All-contains_itself xs i d (omega arith)) (All-contains_itself xs j d lj) (h i j d lt lj)
