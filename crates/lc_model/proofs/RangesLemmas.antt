-- In a list that is sorted by its keys, the items of one key are between two places that a binary search finds.
use Rattle.std.proofs.Common.{◌≡◌, ℕ, suc, ◌+◌, ◌<◌, ◌≤◌, inl, inr, List, [], ◌∷◌, ◌++◌, length, get_or, take, drop, Bool, true, false, sym, ap, ◌∙◌, refl, arith}
use Rattle.std.specs.Cmp.{IsTotalOrder}
use Rattle.std.specs.List.{All, AllWithin, filter, between}
use Rattle.std.specs.List.Sorted.{IsSorted, IsPartitionedBy, IsPartitionPoint}
use Rattle.std.specs.Ordering.{is_lt, is_le, is_eq, ordering_reverse, ordering_then, on, then_cmp}
use Rattle.std.specs.declared.cmp.Ordering.{Ordering}
use Rattle.std.specs.declared.cmp.Ordering.TheVariants.{Less, Equal, Greater}
use Rattle.std.proofs.lemmas.Bool.{cases_lt}
use Rattle.std.proofs.lemmas.Cmp.{nat_list_cmp_total, alike_right}
use Rattle.std.specs.Cmp.Lexicographic.{texts_ties}
use Rattle.std.proofs.lemmas.List.{append-nil, length-take, length-drop, get_or-take, get_or-drop}
use Rattle.std.proofs.lemmas.List.Edits.{split_between, get_or-between, length-between}
use Rattle.std.proofs.lemmas.List.Elements.{filter-append}
use Rattle.std.proofs.lemmas.List.Sorted.{ranks_by, sorted_far}
use Rattle.lc_model.specs.Change.{is_same_id}
use Rattle.lc_model.specs.Text.{id_cmp}
use Rattle.lc_model.specs.Order.{IsStrict}

pub filter_none : {X : Type 0} (p : X → Bool) (xs : List X) → All (λ x. p x ≡ false) xs → filter p xs ≡ []
filter_none p [] h = refl
filter_none p (x ∷ xs) h = rw (h 0 x (omega arith)) (filter_none p xs (λ k d lt. h (suc k) d (omega arith)))

pub filter_all : {X : Type 0} (p : X → Bool) (xs : List X) → All (λ x. p x ≡ true) xs → filter p xs ≡ xs
filter_all p [] h = refl
filter_all p (x ∷ xs) h = rw (h 0 x (omega arith)) (ap (λ v. x ∷ v) (filter_all p xs (λ k d lt. h (suc k) d (omega arith))))

filter_between : {X : Type 0} (p : X → Bool) (xs : List X) (lo hi : ℕ) → lo ≤ hi → hi ≤ length xs → AllWithin (λ x. p x ≡ false) xs 0 lo → AllWithin (λ x. p x ≡ true) xs lo hi → AllWithin (λ x. p x ≡ false) xs hi (length xs) → filter p xs ≡ between lo hi xs
filter_between {X} p xs lo hi le in' below within above =
    let front : All (λ x. p x ≡ false) (take lo xs) = λ k d lt. let inside : k < lo = omega (arith, length-take lo xs, lt) in rw (get_or-take lo xs k d inside) (below k d (omega arith) inside) in
    let middle : All (λ x. p x ≡ true) (between lo hi xs) = λ k d lt. let inside : lo + k < hi = omega (arith, length-between xs lo hi in', lt) in rw (get_or-between xs lo hi k d inside) (within (lo + k) d (omega arith) inside) in
    let back : All (λ x. p x ≡ false) (drop hi xs) = λ k d lt. let inside : hi + k < length xs = omega (arith, length-drop hi xs, lt) in rw (get_or-drop hi xs k d) (above (hi + k) d (omega arith) inside) in
    ap (filter p) (split_between xs lo hi le) ∙ filter-append p (take lo xs) (between lo hi xs ++ drop hi xs)
    ∙ ap (λ v. v ++ filter p (between lo hi xs ++ drop hi xs)) (filter_none p (take lo xs) front)
    ∙ filter-append p (between lo hi xs) (drop hi xs)
    ∙ ap (λ v. v ++ filter p (drop hi xs)) (filter_all p (between lo hi xs) middle)
    ∙ ap (λ v. between lo hi xs ++ v) (filter_none p (drop hi xs) back)
    ∙ append-nil (between lo hi xs)

module _ {K : Type 0} (R : K → K → Ordering) (total : IsTotalOrder R) where
  lt_down_by : (a b k : K) (o : Ordering) → R a b ≡ o → is_lt (ordering_reverse o) ≡ false → R b k ≡ Less → R a k ≡ Less
  lt_down_by a b k Less e f g = total.trans a b k e g
  lt_down_by a b k Equal e f g = total.congr a b k e ∙ g
  lt_down_by a b k Greater e f g = cc

  not_less_back : (a b : K) → is_lt (R b a) ≡ false → is_lt (ordering_reverse (R a b)) ≡ false
  not_less_back a b h = ap is_lt (sym (total.antisymm b a)) ∙ h

  -- what comes before an item that is less than k is less too
  lt_down : (a b k : K) → is_lt (R b a) ≡ false → is_lt (R b k) ≡ true → is_lt (R a k) ≡ true
  lt_down a b k h lt = ap is_lt (lt_down_by a b k (R a b) refl (not_less_back a b h) (less_from (R b k) lt)) where
    less_from : (o : Ordering) → is_lt o ≡ true → o ≡ Less
    less_from Less e = refl
    less_from Equal e = cc
    less_from Greater e = cc

  le_down_by : (a b k : K) (o : Ordering) → R b k ≡ o → is_le o ≡ true → is_lt (R b a) ≡ false → is_le (R a k) ≡ true
  le_down_by a b k Less e f h = ap is_le (lt_down_by a b k (R a b) refl (not_less_back a b h) e)
  le_down_by a b k Equal e f h = equal_down (R a b) refl (not_less_back a b h) where
    equal_down : (o : Ordering) → R a b ≡ o → is_lt (ordering_reverse o) ≡ false → is_le (R a k) ≡ true
    equal_down Less g h = ap is_le (sym (alike_right total b k a e) ∙ g)
    equal_down Equal g h = ap is_le (total.congr a b k g ∙ e)
    equal_down Greater g h = cc
  le_down_by a b k Greater e f h = cc

  -- what comes before an item that is no more than k is no more either
  le_down : (a b k : K) → is_lt (R b a) ≡ false → is_le (R b k) ≡ true → is_le (R a k) ≡ true
  le_down a b k h le = le_down_by a b k (R b k) refl le h

tied : (o : Ordering) → is_lt o ≡ false → is_le o ≡ true → is_eq o ≡ true
tied Less e f = cc
tied Equal e f = refl
tied Greater e f = cc

less_not_tied : (o : Ordering) → is_lt o ≡ true → is_eq o ≡ false
less_not_tied Less e = refl
less_not_tied Equal e = cc
less_not_tied Greater e = cc

more_not_tied : (o : Ordering) → is_le o ≡ false → is_eq o ≡ false
more_not_tied Less e = cc
more_not_tied Equal e = cc
more_not_tied Greater e = refl

less_or_more : (o : Ordering) → is_lt o ≡ true → is_le o ≡ false → ⊥
less_or_more Less e f = cc
less_or_more Equal e f = cc
less_or_more Greater e f = cc

-- the place of the first item whose text is not less than k, and of the first whose text is more
pub record AreBounds {X : Type 0} (f : X → List ℕ) (xs : List X) (k : List ℕ) (lo hi : ℕ) : Type 0 where
  pub within_lo : lo ≤ length xs
  pub within_hi : hi ≤ length xs
  pub less : IsPartitionPoint (λ x. is_lt (id_cmp (f x) k) ≡ true) (λ x. is_lt (id_cmp (f x) k) ≡ false) xs lo
  pub no_more : IsPartitionPoint (λ x. is_le (id_cmp (f x) k) ≡ true) (λ x. is_le (id_cmp (f x) k) ≡ false) xs hi

module _ {X : Type 0} (f : X → List ℕ) (xs : List X) (k : List ℕ) where
  -- the tests of the two searches
  abbrev pub is_before : X → Bool
  is_before x = is_lt (id_cmp (f x) k)

  abbrev pub is_not_after : X → Bool
  is_not_after x = is_le (id_cmp (f x) k)

  parted_lt : IsSorted (on f id_cmp) xs → IsPartitionedBy (λ x. is_lt (id_cmp (f x) k)) xs
  parted_lt up = λ i j d le lj lt.
      lt_down id_cmp nat_list_cmp_total (f (get_or xs i d)) (f (get_or xs j d)) k (sorted_far (λ x y. is_lt (id_cmp (f x) (f y))) (ranks_by nat_list_cmp_total f) xs up i j d le lj) lt

  parted_le : IsSorted (on f id_cmp) xs → IsPartitionedBy (λ x. is_le (id_cmp (f x) k)) xs
  parted_le up = λ i j d le lj h.
      le_down id_cmp nat_list_cmp_total (f (get_or xs i d)) (f (get_or xs j d)) k (sorted_far (λ x y. is_lt (id_cmp (f x) (f y))) (ranks_by nat_list_cmp_total f) xs up i j d le lj) h

  -- what the two searches find
  pub AreBounds-found : (lo hi : ℕ) → lo ≤ length xs → hi ≤ length xs → IsSorted (on f id_cmp) xs → (IsPartitionedBy is_before xs → IsPartitionPoint (λ x. is_before x ≡ true) (λ x. is_before x ≡ false) xs lo) → (IsPartitionedBy is_not_after xs → IsPartitionPoint (λ x. is_not_after x ≡ true) (λ x. is_not_after x ≡ false) xs hi) → AreBounds f xs k lo hi
  AreBounds-found lo hi first end up less no_more =
      record { within_lo = first; within_hi = end; less = less (parted_lt up); no_more = no_more (parted_le up) }

  bounds_rise_from : (lo hi : ℕ) → X → AreBounds f xs k lo hi → lo ≤ hi
  bounds_rise_from lo hi d b = elim (cases_lt hi lo) [
    | inl lt ↦ absurd (less_or_more (id_cmp (f (get_or xs hi d)) k) (b.less.0 hi d (omega arith) lt) (b.no_more.1 hi d (omega arith) (omega (arith, b.within_lo))))
    | inr le ↦ le
  ]

  -- the items of the text are those between the bounds
  pub filter_is_between : (lo hi : ℕ) → lo ≤ hi → AreBounds f xs k lo hi → filter (λ x. is_same_id (f x) k) xs ≡ between lo hi xs
  filter_is_between lo hi le b = filter_between (λ x. is_same_id (f x) k) xs lo hi le b.within_hi
      (λ m d l h. texts_ties (f (get_or xs m d)) k ∙ less_not_tied _ (b.less.0 m d l h))
      (λ m d l h. texts_ties (f (get_or xs m d)) k ∙ tied _ (b.less.1 m d l (omega (arith, b.within_hi))) (b.no_more.0 m d (omega arith) h))
      (λ m d l h. texts_ties (f (get_or xs m d)) k ∙ more_not_tied _ (b.no_more.1 m d l h))

pub bounds_rise : {X : Type 0} (f : X → List ℕ) (xs : List X) (k : List ℕ) (lo hi : ℕ) → AreBounds f xs k lo hi → lo ≤ hi
bounds_rise f [] k lo hi b = omega (arith, b.within_lo)
bounds_rise f (x ∷ xs) k lo hi b = bounds_rise_from f (x ∷ xs) k lo hi x b

first_not_back : (o p : Ordering) → ordering_then o p ≡ Less → is_lt (ordering_reverse o) ≡ false
first_not_back Less p e = refl
first_not_back Equal p e = refl
first_not_back Greater p e = cc

-- what is strictly in the order of a key and then of something else, is sorted by the key
pub sorted_by_key : {X : Type 0} (f : X → List ℕ) (S : X → X → Ordering) (xs : List X) → IsStrict (then_cmp (on f id_cmp) S) xs → IsSorted (on f id_cmp) xs
sorted_by_key f S xs strict k d low inside =
    let x = get_or xs k d in
    let y = get_or xs (k + 1) d in
    ap is_lt (nat_list_cmp_total.antisymm (f y) (f x)) ∙ first_not_back (id_cmp (f x) (f y)) (S x y) (strict k (k + 1) d (omega arith) inside)
