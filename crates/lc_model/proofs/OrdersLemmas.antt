-- Lists in strict order: what a sort makes of a list without ties.
use Rattle.std.proofs.Common.{◌≡◌, ◌≢◌, ℕ, ◌+◌, ◌<◌, ◌⊎◌, inl, inr, List, length, get_or, Bool, true, false, zero, suc, [], ◌∷◌, ap, ◌∙◌, sym, refl, subst, arith}
use Rattle.std.specs.Cmp.{IsTotalOrder, IsStrictWeakOrder}
use Rattle.std.specs.Fn.{Called, ComparesAs}
use Rattle.std.specs.List.{AllPairs, Contains, swap}
use Rattle.std.specs.List.Sorted.{IsPermutation, IsSorted, IsSortedBy}
use Rattle.std.specs.Ordering.{is_lt, ordering_reverse}
use Rattle.std.specs.declared.cmp.Ordering.{Ordering}
use Rattle.std.specs.declared.cmp.Ordering.TheVariants.{Less, Equal, Greater}
use Rattle.std.proofs.lemmas.Bool.{cases_order, cases_eq}
use Rattle.std.proofs.lemmas.Cmp.{tied_back, tied_itself}
use Rattle.std.proofs.lemmas.List.Edits.{swapped_from_swap, length-swap}
use Rattle.std.proofs.lemmas.List.Sorted.{Contains-permutation, IsPermutation-keeps, IsPermutation-sym, ranks_by, sorted_far, answers_always}
use denote.Param.Members.{Mut}
use denote.Ref.{Bor}
use Rattle.lc_model.specs.Order.{AreApart, IsStrict}

module _ {X : Type 0} (R : X → X → Type 0) where
  -- the relation holds of any two places
  abbrev AllApart : List X → Type 0
  AllApart xs = (a b : ℕ) (d : X) → a < length xs → b < length xs → a ≢ b → R (get_or xs a d) (get_or xs b d)

  apart_from_pairs : ((x y : X) → R x y → R y x) → (xs : List X) → AllPairs R xs → AllApart xs
  apart_from_pairs back xs h = λ a b d la lb ne. elim (cases_order a b) [
    | inl e ↦ absurd (ne e)
    | inr (inl lt) ↦ h a b d lt lb
    | inr (inr gt) ↦ back _ _ (h b a d gt la)
  ]

  pairs_from_apart : (xs : List X) → AllApart xs → AllPairs R xs
  pairs_from_apart xs h = λ i j d lt lj. let ne : i ≢ j = omega arith in h i j d (omega arith) lj ne

  -- where the item at a place was before the swap
  record StoodAt (l : List X) (i j m : ℕ) (d : X) : Type 0 where
    place : ℕ
    within : place < length l
    is : get_or (swap l i j) m d ≡ get_or l place d
    moved : ((m ≡ i) × (place ≡ j)) ⊎ (((m ≡ j) × (place ≡ i)) ⊎ ((m ≢ i) × (m ≢ j) × (place ≡ m)))

  stood_at : (l : List X) (i j m : ℕ) (d : X) → i < length l → j < length l → m < length l → StoodAt l i j m d
  stood_at l i j m d li lj lm =
      let s = swapped_from_swap l (swap l i j) i j d li lj refl in
      elim (cases_eq m i) [
        | inl e ↦ record { place = j; within = lj; is = ap (λ v. get_or (swap l i j) v d) e ∙ s.0; moved = inl (e, refl) }
        | inr ne ↦ elim (cases_eq m j) [
          | inl e ↦ record { place = i; within = li; is = ap (λ v. get_or (swap l i j) v d) e ∙ s.1; moved = inr (inl (e, refl)) }
          | inr nf ↦ record { place = m; within = lm; is = s.2 m ne nf; moved = inr (inr (ne, nf, refl)) }
        ]
      ]

  apart_swapped : (l : List X) (i j : ℕ) → i < length l → j < length l → AllApart l → AllApart (swap l i j)
  apart_swapped l i j li lj h = λ a b d la lb ne.
      let long = length-swap l i j in
      let p = stood_at l i j a d li lj (omega arith) in
      let q = stood_at l i j b d li lj (omega arith) in
      let pm = p.moved in
      let qm = q.moved in
      let other : p.place ≢ q.place = omega arith in
      rw (p.is, q.is) (h p.place q.place d p.within q.within other)

  -- what holds of all pairs both ways, holds of them in any order
  pub AllPairs-permutation : ((x y : X) → R x y → R y x) → (xs ys : List X) → IsPermutation xs ys → AllPairs R xs → AllPairs R ys
  AllPairs-permutation back xs ys moved h =
      pairs_from_apart ys (IsPermutation-keeps xs AllApart (apart_from_pairs back xs h) apart_swapped ys moved)

-- no two neighbours of the list tie
abbrev pub NeighboursApart : {X : Type 0} → (X → X → Ordering) → List X → Type 0
NeighboursApart {X} cmp xs = (k : ℕ) (d : X) → k + 1 < length xs → cmp (get_or xs k d) (get_or xs (k + 1) d) ≢ Equal

less_from : (o r : Ordering) → o ≡ ordering_reverse r → is_lt r ≡ false → o ≢ Equal → o ≡ Less
less_from o Less e not_less apart = cc
less_from o Equal e not_less apart = absurd (apart e)
less_from o Greater e not_less apart = e

-- of two items of a sorted list that do not tie the earlier is less
less_before : {X : Type 0} (cmp : X → X → Ordering) → IsTotalOrder cmp → (xs : List X) → IsSorted cmp xs → (i j : ℕ) (d : X) → i < j → j < length xs
    → cmp (get_or xs i d) (get_or xs j d) ≢ Equal → cmp (get_or xs i d) (get_or xs j d) ≡ Less
less_before cmp total xs sorted i j d before inside apart =
    less_from _ (cmp (get_or xs j d) (get_or xs i d)) (total.antisymm _ _)
    (sorted_far (λ x y. is_lt (cmp x y)) (ranks_by total (λ x. x)) xs sorted i j d (omega arith) inside)
    apart

-- sorted without ties is strict
pub strict_from_sorted : {X : Type 0} (cmp : X → X → Ordering) → IsTotalOrder cmp → (xs : List X) → IsSorted cmp xs → AreApart cmp xs → IsStrict cmp xs
strict_from_sorted cmp total xs sorted apart i j d before inside =
    less_before cmp total xs sorted i j d before inside (apart i j d before inside)

-- for this it is enough to look at neighbours
pub strict_from_neighbours : {X : Type 0} (cmp : X → X → Ordering) → IsTotalOrder cmp → (xs : List X) → IsSorted cmp xs → NeighboursApart cmp xs → IsStrict cmp xs
strict_from_neighbours {X} cmp total xs sorted apart i j d before inside =
    less_before cmp total xs sorted i j d before inside (λ ties.
    let next : cmp (get_or xs i d) (get_or xs (i + 1) d) ≡ Less = less_before cmp total xs sorted i (i + 1) d (omega arith) (omega arith) (apart i d (omega arith)) in
    let same : cmp (get_or xs i d) (get_or xs (i + 1) d) ≡ cmp (get_or xs j d) (get_or xs (i + 1) d) = total.congr _ _ _ ties in
    let less : is_lt (cmp (get_or xs j d) (get_or xs (i + 1) d)) ≡ true = ap is_lt (sym same ∙ next) in
    let not_less : is_lt (cmp (get_or xs j d) (get_or xs (i + 1) d)) ≡ false =
    sorted_far (λ x y. is_lt (cmp x y)) (ranks_by total (λ x. x)) xs sorted (i + 1) j d (omega arith) inside in
    cc)

-- nothing ties where no neighbours do
pub apart_from_neighbours : {X : Type 0} (cmp : X → X → Ordering) → IsTotalOrder cmp → (xs : List X) → IsSorted cmp xs → NeighboursApart cmp xs → AreApart cmp xs
apart_from_neighbours cmp total xs sorted apart i j d before inside ties =
    let less : cmp (get_or xs i d) (get_or xs j d) ≡ Less = strict_from_neighbours cmp total xs sorted apart i j d before inside in
    cc

-- items that do not tie do not in any other order of the list
pub apart_permuted : {X : Type 0} (cmp : X → X → Ordering) → IsTotalOrder cmp → (xs ys : List X) → IsPermutation xs ys → AreApart cmp xs → AreApart cmp ys
apart_permuted cmp total xs ys moved apart =
    AllPairs-permutation (λ x y. cmp x y ≢ Equal) (λ x y untied ties. untied (tied_back total y x ties)) xs ys moved apart

module _ {X : Type 0} (R : X → X → Ordering) (total : IsTotalOrder R) where
  -- a list without ties, once it is sorted, is in strict order
  pub IsStrict-from_sorted : (xs ys : List X) → IsPermutation xs ys → IsSorted R ys → AreApart R xs → IsStrict R ys
  IsStrict-from_sorted xs ys moved up apart = strict_from_sorted R total ys up (apart_permuted R total xs ys moved apart)

  -- what a sort by a closure ensures, where the closure compares by the order
  pub IsSorted-from_closure : {F : Type 0} {g : Mut F (Bor X × (Bor X × Unit {0})) Ordering} {f : F} (xs : List X) → ((lt : X → X → Bool) → IsStrictWeakOrder lt → ComparesAs g lt f → IsSortedBy lt xs) → ((f : F) (a : Bor X × (Bor X × Unit {0})) (r : Ordering) (f' : F) → Called g f a r f' → r ≡ R a.0.now a.1.0.now) → IsSorted R xs
  IsSorted-from_closure {g = g} {f = f} xs up h =
      up (λ x y. is_lt (R x y)) (ranks_by total (λ x. x)) (answers_always g (λ a r. is_lt r ≡ is_lt (R a.0.now a.1.0.now)) f (λ f a r f' k. ap is_lt (h f a r f' k)))

  head_or_behind : (x : X) (xs : List X) (z : X) → Contains (x ∷ xs) z → (x ≡ z) ⊎ Contains xs z
  head_or_behind x xs z (zero, inside, at) = inl at
  head_or_behind x xs z (suc k, inside, at) = inr (k, omega arith, at)

  nothing_in : (z : X) → Contains [] z → ⊥
  nothing_in z (k, inside, at) = omega arith

  behind : (x : X) (xs : List X) (z : X) → Contains xs z → Contains (x ∷ xs) z
  behind x xs z (k, inside, at) = (suc k, omega arith, at)

  less_than_behind : (x : X) (xs : List X) (z : X) → IsStrict R (x ∷ xs) → Contains xs z → R x z ≡ Less
  less_than_behind x xs z strict (k, inside, at) = subst (λ w. R x w ≡ Less) at (strict 0 (suc k) z (omega arith) (omega arith))

  pub strict_behind : (x : X) (xs : List X) → IsStrict R (x ∷ xs) → IsStrict R xs
  strict_behind x xs strict i j d before inside = strict (suc i) (suc j) d (omega arith) (omega arith)

  heads_are_one : (x : X) (xs : List X) (y : X) (ys : List X) → IsStrict R (x ∷ xs) → IsStrict R (y ∷ ys) → (x ≡ y) ⊎ Contains xs y → (y ≡ x) ⊎ Contains ys x → x ≡ y
  heads_are_one x xs y ys xs_strict ys_strict (inl same) either = same
  heads_are_one x xs y ys xs_strict ys_strict (inr there) (inl same) = sym same
  heads_are_one x xs y ys xs_strict ys_strict (inr there) (inr here) =
      let less : R x y ≡ Less = less_than_behind x xs y xs_strict there in
      let back : R y x ≡ Less = less_than_behind y ys x ys_strict here in
      let reverse : R x y ≡ ordering_reverse (R y x) = total.antisymm x y in
      absurd (let f : Less ≡ Greater = sym less ∙ reverse ∙ ap ordering_reverse back in cc)

  -- what comes after the one head comes after the other, which is the same
  behind_the_other : (x : X) (xs : List X) (y : X) (ys : List X) → IsStrict R (x ∷ xs) → x ≡ y → (z : X) → Contains xs z → (y ≡ z) ⊎ Contains ys z → Contains ys z
  behind_the_other x xs y ys strict same z there (inr other) = other
  behind_the_other x xs y ys strict same z there (inl head) =
      let less : R x z ≡ Less = less_than_behind x xs z strict there in
      let ties : R x z ≡ Equal = subst (λ w. R x w ≡ Equal) (same ∙ head) (tied_itself total x) in
      absurd (let f : Less ≡ Equal = sym less ∙ ties in cc)

  -- two lists in strict order with the same items are one list
  pub strict_lists_are_one : (xs ys : List X) → IsStrict R xs → IsStrict R ys → ((x : X) → Contains xs x → Contains ys x) → ((x : X) → Contains ys x → Contains xs x) → xs ≡ ys
  strict_lists_are_one [] [] xs_strict ys_strict there back = refl
  strict_lists_are_one [] (y ∷ ys) xs_strict ys_strict there back = absurd (nothing_in y (back y (0, omega arith, refl)))
  strict_lists_are_one (x ∷ xs) [] xs_strict ys_strict there back = absurd (nothing_in x (there x (0, omega arith, refl)))
  strict_lists_are_one (x ∷ xs) (y ∷ ys) xs_strict ys_strict there back =
      let same : x ≡ y =
      heads_are_one x xs y ys xs_strict ys_strict (head_or_behind x xs y (back y (0, omega arith, refl))) (head_or_behind y ys x (there x (0, omega arith, refl))) in
      let rest : xs ≡ ys =
      strict_lists_are_one xs ys (strict_behind x xs xs_strict) (strict_behind y ys ys_strict)
      (λ z h. behind_the_other x xs y ys xs_strict same z h (head_or_behind y ys z (there z (behind x xs z h))))
      (λ z h. behind_the_other y ys x xs ys_strict (sym same) z h (head_or_behind x xs z (back z (behind y ys z h)))) in
      rw (same, rest) refl

  -- the strict order of a list's items is one
  pub strict_orders_are_one : (zs xs ys : List X) → IsPermutation zs xs → IsPermutation zs ys → IsStrict R xs → IsStrict R ys → xs ≡ ys
  strict_orders_are_one zs xs ys to_xs to_ys xs_strict ys_strict =
      strict_lists_are_one xs ys xs_strict ys_strict
      (λ x h. Contains-permutation zs ys x to_ys (Contains-permutation xs zs x (IsPermutation-sym zs xs to_xs) h))
      (λ x h. Contains-permutation zs xs x to_xs (Contains-permutation ys zs x (IsPermutation-sym zs ys to_ys) h))
