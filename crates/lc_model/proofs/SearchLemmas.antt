-- What a binary search among ids finds, and ids that are only moved.
use Rattle.std.proofs.Common.{Bor, ◌≡◌, ◌∙◌, ℕ, ◌+◌, ◌<◌, ◌≤◌, List, [], ◌∷◌, Bool, true, false, Result, Ok, Err, length, map, get_or, refl, sym, ap, subst, arith, ⊎_elim}
use Rattle.std.specs.Prelude.{IsTrue, is_ok, Any}
use Rattle.std.specs.Bool.{MatchBool}
use Rattle.std.proofs.lemmas.Bool.{cases_lt}
use Rattle.std.proofs.lemmas.Cmp.{nat_list_cmp_total, tied_itself}
use Rattle.std.proofs.lemmas.Map.Lookups.{exact_bytes}
use Rattle.std.proofs.lemmas.List.{get_or-map, get_or_default, length-map}
use Rattle.std.proofs.lemmas.List.Sorted.{Contains-permutation, IsPermutation-map, IsPermutation-sym, searchable_from_sorted}
use Rattle.std.specs.Cmp.{IsTotalOrder}
use Rattle.std.specs.List.{All, AllWithin, Contains, HoldsAt}
use Rattle.std.specs.List.Sorted.{IsBinarySearchResult, IsPermutation, IsSearchInRange, IsSorted}
use Rattle.std.specs.Ordering.{is_lt, on, ordering_reverse, ordering_then}
use Rattle.std.specs.declared.cmp.Ordering.{Ordering}
use Rattle.std.specs.declared.cmp.Ordering.TheVariants.{Less, Equal, Greater}
use Rattle.lc_model.specs.Order.{IsStrict}
use Rattle.lc_model.specs.Text.{id_cmp}

-- what ties by two orders, the one after the other, ties by both
pub both_tie : (o p : Ordering) → ordering_then o p ≡ Equal → (o ≡ Equal) × (p ≡ Equal)
both_tie Less p e = absurd (let f : Less ≡ Equal = e in cc)
both_tie Equal p e = (refl, e)
both_tie Greater p e = absurd (let f : Greater ≡ Equal = e in cc)

-- ids that tie are the same
pub id_tie : (x y : List ℕ) → id_cmp x y ≡ Equal → x ≡ y
id_tie x y e = exact_bytes x y e

pub same_id : (x y : List ℕ) → x ≡ y → id_cmp x y ≡ Equal
same_id x y e = subst (λ z. id_cmp x z ≡ Equal) e (tied_itself nat_list_cmp_total x)

-- the answer says whether an item has the id as its key
abbrev pub Tells : {X : Type 0} → (X → List ℕ) → List X → List ℕ → Bool → Type 0
Tells key xs id answer = (IsTrue answer → Any (λ y. key y ≡ id) xs) × (Any (λ y. key y ≡ id) xs → IsTrue answer)

-- the answer says whether each item is so
abbrev pub TellsAll : {X : Type 0} → (X → Type 0) → List X → Bool → Type 0
TellsAll P xs answer = (IsTrue answer → All P xs) × (All P xs → IsTrue answer)

not_so : {X : Type 0} (P : X → Type 0) (xs : List X) (k : ℕ) → k < length xs → HoldsAt (λ x. P x → ⊥) xs k → All P xs → ⊥
not_so P [] k inside at all = absurd (omega arith)
not_so P (y ∷ ys) k inside at all = at y (all k y inside)

pub all_tells : {X : Type 0} (P : X → Type 0) (xs : List X) (answer : Bool)
    → MatchBool answer (AllWithin P xs 0 (length xs)) ((k : ℕ) × (k < length xs) × HoldsAt (λ x. P x → ⊥) xs k) → TellsAll P xs answer
all_tells P xs true h = ((λ _ k d inside. h k d (omega arith) inside), (λ _. refl))
all_tells P xs false (k, inside, at) = ((λ yes. absurd (let f : false ≡ true = yes in cc)), (λ all. absurd (not_so P xs k inside at all)))

-- an item at a place
item_there : {X : Type 0} (P : X → Type 0) (xs : List X) (k : ℕ) → k < length xs → ((d : X) → P (get_or xs k d)) → Any P xs
item_there P [] k inside at = absurd (omega arith)
item_there P (y ∷ ys) k inside at = (k, get_or (y ∷ ys) k y, inside, get_or_default (y ∷ ys) k _ y inside, at y)

pub sorted_from_strict : {X : Type 0} (cmp : X → X → Ordering) → IsTotalOrder cmp → (xs : List X) → IsStrict cmp xs → IsSorted cmp xs
sorted_from_strict cmp total xs strict k d low inside =
    let less : cmp (get_or xs k d) (get_or xs (k + 1) d) ≡ Less = strict k (k + 1) d (omega arith) inside in
    ap is_lt (total.antisymm (get_or xs (k + 1) d) (get_or xs k d) ∙ ap ordering_reverse less)

-- what a binary search for an id answers
pub search_tells : {X : Type 0} (key : X → List ℕ) (xs : List X) (id : List ℕ) (r : Result ℕ ℕ) (answer : Bool) → IsSorted (on key id_cmp) xs → IsSearchInRange r (length xs)
    → IsBinarySearchResult (λ y. id_cmp (key y) id) xs r → answer ≡ is_ok r → Tells key xs id answer
search_tells key xs id (Ok i) answer sorted inside at is =
    ((λ _. item_there (λ y. key y ≡ id) xs i inside (λ d. id_tie (key (get_or xs i d)) id (at d))), (λ _. is))
search_tells {X} key xs id (Err i) answer sorted inside at is =
    let parts = at (searchable_from_sorted nat_list_cmp_total key xs id sorted) in (
      (λ yes. absurd (let f : true ≡ false = sym yes ∙ is in cc)),
      (λ (k, y, there, at_k, tie).
          let P : X → Type 0 = λ z. id_cmp (key z) id ≡ Equal in
          let equal : id_cmp (key (get_or xs k y)) id ≡ Equal = subst P (sym at_k) (same_id (key y) id tie) in
          ⊎_elim
          (λ (low : k < i). absurd (let f : Less ≡ Equal = sym (parts.0 k y (omega arith) low) ∙ equal in cc))
          (λ (high : i ≤ k). absurd (let f : Greater ≡ Equal = sym (parts.1 k y high there) ∙ equal in cc))
          (cases_lt k i)),
    )

-- an item with a key is a key among the keys
keyed : {X : Type 0} (key : X → List ℕ) (xs : List X) (id : List ℕ) → Any (λ y. key y ≡ id) xs → Contains (map key xs) id
keyed key xs id (k, y, there, at_k, tie) =
    (k, rw (length-map xs key) there, get_or-map key xs k y id there ∙ ap key at_k ∙ tie)

of_key : {X : Type 0} (key : X → List ℕ) (xs : List X) (id : List ℕ) → Contains (map key xs) id → Any (λ y. key y ≡ id) xs
of_key key xs id (k, there, at_k) =
    let inside : k < length xs = rw (length-map xs key) at there in
    item_there (λ y. key y ≡ id) xs k inside (λ d. sym (get_or-map key xs k d id inside) ∙ at_k)

-- the ids of items, moved
pub ids_moved : {X : Type 0} (key : X → List ℕ) (ids sorted : List (Bor (List ℕ))) (xs : List X) → map (λ (x : Bor (List ℕ)). x.now) ids ≡ map key xs → IsPermutation ids sorted
    → (id : List ℕ) → (Any (λ (x : Bor (List ℕ)). x.now ≡ id) sorted → Any (λ x. key x ≡ id) xs) × (Any (λ x. key x ≡ id) xs → Any (λ (x : Bor (List ℕ)). x.now ≡ id) sorted)
ids_moved key ids sorted xs same moved id =
    let now : Bor (List ℕ) → List ℕ = λ x. x.now in
    let there : IsPermutation (map now ids) (map now sorted) = IsPermutation-map now ids sorted moved in
    let back : IsPermutation (map now sorted) (map now ids) = IsPermutation-sym _ _ there in
    let P : List (List ℕ) → Type 0 = λ l. Contains l id in (
      (λ any. of_key key xs id (subst P same (Contains-permutation (map now sorted) (map now ids) id back (keyed now sorted id any)))),
      (λ has. of_key now sorted id (Contains-permutation (map now ids) (map now sorted) id there (subst P (sym same) (keyed key xs id has)))),
    )
