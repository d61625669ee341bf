-- Lists in which no item is there twice: with the same items they are the same in another order.
use Rattle.std.proofs.Common.{◌≡◌, ◌≢◌, ◌⊎◌, ◌↔◌, inl, inr, List, [], ◌∷◌, filter, Bool, true, remove, sym, subst}
use Rattle.std.specs.Cmp.{IsTotalOrder}
use Rattle.std.specs.List.{Contains}
use Rattle.std.specs.List.Sorted.{IsPermutation}
use Rattle.std.specs.declared.cmp.Ordering.{Ordering}
use Rattle.std.specs.declared.cmp.Ordering.TheVariants.{Equal}
use Rattle.std.proofs.lemmas.Cmp.{tied_itself}
use Rattle.std.proofs.lemmas.List.Elements.{All-contains}
use Rattle.std.proofs.lemmas.List.Kept.{AllPairs-filter}
use Rattle.std.proofs.lemmas.List.Sorted.{Contains-permutation, IsPermutation-cons, IsPermutation-refl, IsPermutation-remove, IsPermutation-sym, IsPermutation-trans}
use Rattle.lc_model.specs.Order.{AreApart}
use Rattle.lc_model.proofs.ListLemmas.{AllPairs-head, AllPairs-tail, AllPairs-weaker, Contains-cases, Contains-filter, Contains-here, Contains-nil, Contains-there, IsKept-filter}
use Rattle.lc_model.proofs.OrdersLemmas.{AllPairs-permutation}
use Rattle.version_store.specs.IndexLaws.Held.{NoneTwice}

-- the first item is not later in the list
not_later : {X : Type 0} (x : X) (xs : List X) (z : X) → NoneTwice (x ∷ xs) → Contains xs z → x ≢ z
not_later x xs z once there = All-contains (λ y. x ≢ y) xs z (AllPairs-head (λ a b. a ≢ b) x xs once) there

later : {X : Type 0} (x : X) (xs : List X) (z : X) → x ≢ z → (x ≡ z) ⊎ Contains xs z → Contains xs z
later x xs z other (inl same) = absurd (other same)
later x xs z other (inr there) = there

pub same_items : {X : Type 0} (xs ys : List X) → NoneTwice xs → NoneTwice ys → ((x : X) → Contains xs x → Contains ys x) → ((x : X) → Contains ys x → Contains xs x) → IsPermutation xs ys
same_items [] [] xs_once ys_once there back = IsPermutation-refl []
same_items [] (y ∷ ys) xs_once ys_once there back = absurd (Contains-nil y (back y (Contains-here y ys)))
same_items {X} (x ∷ xs) ys xs_once ys_once there back =
    let at = there x (Contains-here x xs) in
    let rest = remove ys at.0 in
    let moved : IsPermutation ys (x ∷ rest) = IsPermutation-remove ys at.0 x at.1 (sym at.2) in
    let once : NoneTwice (x ∷ rest) = AllPairs-permutation (λ (a b : X). a ≢ b) (λ a b ne e. ne (sym e)) ys (x ∷ rest) moved ys_once in
    let behind : IsPermutation xs rest =
    same_items xs rest (AllPairs-tail (λ (a b : X). a ≢ b) x xs xs_once) (AllPairs-tail (λ (a b : X). a ≢ b) x rest once)
    (λ z in_xs.
    later x rest z (not_later x xs z xs_once in_xs)
    (Contains-cases x rest z (Contains-permutation ys (x ∷ rest) z moved (there z (Contains-there x xs z in_xs)))))
    (λ z in_rest.
    later x xs z (not_later x rest z once in_rest)
    (Contains-cases x xs z (back z (Contains-permutation (x ∷ rest) ys z (IsPermutation-sym ys (x ∷ rest) moved) (Contains-there x rest z in_rest))))) in
    IsPermutation-trans (x ∷ xs) (x ∷ rest) ys (IsPermutation-cons x xs rest behind) (IsPermutation-sym ys (x ∷ rest) moved)

-- what a test keeps of two lists, where they have the same items that pass it
pub same_kept : {X : Type 0} (p : X → Bool) (xs ys : List X) → NoneTwice xs → NoneTwice ys → ((x : X) → p x ≡ true → (Contains xs x ↔ Contains ys x)) → IsPermutation (filter p xs) (filter p ys)
same_kept {X} p xs ys xs_once ys_once same =
    same_items (filter p xs) (filter p ys)
    (AllPairs-filter (λ (a b : X). a ≢ b) p xs xs_once)
    (AllPairs-filter (λ (a b : X). a ≢ b) p ys ys_once)
    (λ x there. let kept = IsKept-filter p xs x there in Contains-filter p ys x ((same x kept.passes).0 kept.stands) kept.passes)
    (λ x there. let kept = IsKept-filter p ys x there in Contains-filter p xs x ((same x kept.passes).1 kept.stands) kept.passes)

-- items that do not tie are not the same
pub apart_once : {X : Type 0} (R : X → X → Ordering) → IsTotalOrder R → (xs : List X) → AreApart R xs → NoneTwice xs
apart_once {X} R total xs apart =
    AllPairs-weaker (λ (a b : X). R a b ≢ Equal) (λ (a b : X). a ≢ b) xs
    (λ a b in_a in_b untied same. untied (subst (λ c. R a c ≡ Equal) same (tied_itself total a))) apart
