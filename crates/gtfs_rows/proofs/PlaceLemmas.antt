-- The first place of a list that passes a test, and the first element.
use Rattle.std.proofs.Common.{zero, suc, ◌≡◌, ℕ, ◌+◌, ◌<◌, ◌≤◌, List, [], ◌∷◌, Bool, true, false, Some, None, length, get_or, drop, refl, arith}
use Rattle.std.specs.Prelude.{position}
use Rattle.std.specs.List.{find, position_or_len}
use Rattle.std.proofs.lemmas.Bool.Decides.{nat_tests}
use Rattle.std.proofs.lemmas.List.{drop_all, drop_more}
use Rattle.std.proofs.lemmas.List.Sums.{position_or_len_is}

pub position-found : {X : Type 0} (p : X → Bool) (xs : List X) (i : ℕ) (d : X) → i < length xs → ((k : ℕ) → k < i → p (get_or xs k d) ≡ false)
    → p (get_or xs i d) ≡ true → position p xs ≡ Some i
position-found p xs i d inside before here =
    let at : position_or_len p xs ≡ i = position_or_len_is p xs i d (omega arith) before (λ h. here) in
    rw at (grind (arith, nat_tests))

pub position-none : {X : Type 0} (p : X → Bool) (xs : List X) (d : X) → ((k : ℕ) → k < length xs → p (get_or xs k d) ≡ false) → position p xs ≡ None
position-none p xs d before =
    let at : position_or_len p xs ≡ length xs = position_or_len_is p xs (length xs) d (omega arith) before (λ h. absurd (omega arith)) in
    rw at (grind (arith, nat_tests))

pub find-passed : {X : Type 0} (p : X → Bool) (xs : List X) (i : ℕ) (d : X) → i < length xs → p (get_or xs i d) ≡ false → find p (drop (i + 1) xs) ≡ find p (drop i xs)
find-passed p xs i d inside out = rw (drop_more xs i d inside, out) refl

pub find-found : {X : Type 0} (p : X → Bool) (xs : List X) (i : ℕ) (d : X) → i < length xs → p (get_or xs i d) ≡ true → find p (drop i xs) ≡ Some (get_or xs i d)
find-found p xs i d inside hit = rw (drop_more xs i d inside, hit) refl

pub find-none : {X : Type 0} (p : X → Bool) (xs : List X) (i : ℕ) → length xs ≤ i → find p (drop i xs) ≡ None
find-none p xs i past = rw (drop_all i xs past) refl

-- what a search that found nothing says of each element
pub find-none_each : {X : Type 0} (p : X → Bool) (xs : List X) → find p xs ≡ None → (k : ℕ) (d : X) → k < length xs → p (get_or xs k d) ≡ false
find-none_each p [] h k d inside = absurd (omega arith)
find-none_each p (x ∷ xs) h k d inside = by (p x) refl k inside (find-none_each p xs)
  where
    by : (b : Bool) → p x ≡ b → (k : ℕ) → k < length (x ∷ xs)
        → (find p xs ≡ None → (j : ℕ) (e : _) → j < length xs → p (get_or xs j e) ≡ false) → p (get_or (x ∷ xs) k d) ≡ false
    by true e k inside later = let no : Some x ≡ None = rw e at h in cc
    by false e zero inside later = e
    by false e (suc k) inside later = later (rw e at h) k d (omega arith)

pub find-none_all : {X : Type 0} (p : X → Bool) (xs : List X) → ((k : ℕ) (d : X) → k < length xs → p (get_or xs k d) ≡ false) → find p xs ≡ None
find-none_all p [] h = refl
find-none_all p (x ∷ xs) h = rw (h 0 x (omega arith)) (find-none_all p xs (λ k d inside. h (suc k) d (omega arith)))

all_before : {X : Type 0} (p : X → Bool) (xs : List X) → length xs ≤ position_or_len p xs → (k : ℕ) (d : X) → k < length xs → p (get_or xs k d) ≡ false
all_before p [] h k d inside = absurd (omega arith)
all_before p (x ∷ xs) h k d inside = by (p x) refl k inside (all_before p xs)
  where
    by : (b : Bool) → p x ≡ b → (k : ℕ) → k < length (x ∷ xs)
        → (length xs ≤ position_or_len p xs → (j : ℕ) (e : _) → j < length xs → p (get_or xs j e) ≡ false) → p (get_or (x ∷ xs) k d) ≡ false
    by true e k inside later = let no : suc (length xs) ≤ 0 = rw e at h in absurd (omega arith)
    by false e zero inside later = e
    by false e (suc k) inside later = let more : suc (length xs) ≤ 1 + position_or_len p xs = rw e at h in later (omega arith) k d (omega arith)

pub position-none_each : {X : Type 0} (p : X → Bool) (xs : List X) → position p xs ≡ None → (k : ℕ) (d : X) → k < length xs → p (get_or xs k d) ≡ false
position-none_each p xs h = all_before p xs (grind (arith, nat_tests))
