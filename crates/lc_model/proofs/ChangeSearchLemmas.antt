-- What a binary search for a change finds.
use Rattle.std.proofs.Common.{◌≡◌, ◌∙◌, ℕ, ◌<◌, ◌≤◌, zero, suc, List, [], ◌∷◌, Bool, true, false, ◌&&◌, Some, None, Ok, Err, length, get_or, refl, sym, ap, subst, arith, ⊎_elim}
use Rattle.std.specs.Prelude.{find, option_map}
use Rattle.std.proofs.lemmas.Bool.{cases_lt}
use Rattle.std.proofs.lemmas.Cmp.{nat_list_cmp_total, on_total, then_total}
use Rattle.std.proofs.lemmas.List.Sorted.{searchable_from_sorted}
use Rattle.std.proofs.lemmas.Slice.Eq.{bytes_eq-Decides}
use Rattle.std.specs.Cmp.{IsTotalOrder}
use Rattle.std.specs.List.Sorted.{IsBinarySearchResult}
use Rattle.std.specs.Ordering.{on, ordering_then, then_cmp}
use Rattle.std.specs.declared.cmp.Ordering.{Ordering}
use Rattle.std.specs.declared.cmp.Ordering.TheVariants.{Less, Equal, Greater}
use Rattle.lc_model.specs.Change.{InChangeOrder, change_between, change_cmp, is_same_id}
use Rattle.lc_model.specs.Text.{id_cmp}
use Rattle.lc_model.specs.declared.change.Change.{Change}
use Rattle.lc_model.proofs.SearchLemmas.{both_tie, id_tie, same_id, sorted_from_strict}
use Rattle.lc_model.specs.Totals.{change_cmp_total}

find_here : {X : Type 0} (p : X → Bool) (xs : List X) (i : ℕ) (x : X) → i < length xs → get_or xs i x ≡ x → p x ≡ true
    → ((k : ℕ) → k < i → p (get_or xs k x) ≡ false) → find p xs ≡ Some x
find_here p [] i x inside at passes before = absurd (omega arith)
find_here p (y ∷ ys) zero x inside at passes before = let here : y ≡ x = at in rw (here, passes)
find_here p (y ∷ ys) (suc k) x inside at passes before =
    let fails : p y ≡ false = before 0 (omega arith) in
    rw fails (find_here p ys k x (omega arith) at passes (λ m low. before (suc m) (omega arith)))

find_none : {X : Type 0} (p : X → Bool) (xs : List X) → ((k : ℕ) (d : X) → k < length xs → p (get_or xs k d) ≡ false) → find p xs ≡ None
find_none p [] fails = refl
find_none p (y ∷ ys) fails =
    let here : p y ≡ false = fails 0 y (omega arith) in
    rw here (find_none p ys (λ k d inside. fails (suc k) d (omega arith)))

tie_both : (a b : Ordering) → a ≡ Equal → b ≡ Equal → ordering_then a b ≡ Equal
tie_both a b d e = rw (d, e)

both_true : (a b : Bool) → (a && b) ≡ true → (a ≡ true) × (b ≡ true)
both_true true b e = (refl, e)
both_true false b e = absurd (let f : false ≡ true = e in cc)

not_true : (b : Bool) → (b ≡ true → ⊥) → b ≡ false
not_true true never = absurd (never refl)
not_true false never = refl

-- how a change compares with the one that is sought
abbrev pub stands : List ℕ → List ℕ → Change → Ordering
stands from to c = ordering_then (id_cmp c.from from) (id_cmp c.to to)

-- whether a change is the one that is sought
abbrev is_sought : List ℕ → List ℕ → Change → Bool
is_sought from to c = is_same_id c.from from && is_same_id c.to to

sought_ties : (from to : List ℕ) (c : Change) → is_sought from to c ≡ true → stands from to c ≡ Equal
sought_ties from to c e =
    let both = both_true (is_same_id c.from from) (is_same_id c.to to) e in
    tie_both _ _ (same_id c.from from ((bytes_eq-Decides c.from from).0 both.0)) (same_id c.to to ((bytes_eq-Decides c.to to).0 both.1))

tied_sought : (from to : List ℕ) (c : Change) → stands from to c ≡ Equal → is_sought from to c ≡ true
tied_sought from to c e =
    let both = both_tie (id_cmp c.from from) (id_cmp c.to to) e in
    let left : is_same_id c.from from ≡ true = (bytes_eq-Decides c.from from).1 (id_tie c.from from both.0) in
    let right : is_same_id c.to to ≡ true = (bytes_eq-Decides c.to to).1 (id_tie c.to to both.1) in
    rw (left, right)

-- the ids of the one that is found, in place of those sought
ties_along : (from to : List ℕ) (b c : Change) → stands from to b ≡ Equal → stands from to c ≡ Equal → change_cmp b c ≡ Equal
ties_along from to b c eb ec =
    let bs = both_tie (id_cmp b.from from) (id_cmp b.to to) eb in
    let cs = both_tie (id_cmp c.from from) (id_cmp c.to to) ec in
    tie_both _ _
    (same_id b.from c.from (id_tie b.from from bs.0 ∙ sym (id_tie c.from from cs.0)))
    (same_id b.to c.to (id_tie b.to to bs.1 ∙ sym (id_tie c.to to cs.1)))

pub found_between : (xs : List Change) (from to : List ℕ) (i : ℕ) (x : Change) → InChangeOrder xs → i < length xs → x ≡ get_or xs i x
    → IsBinarySearchResult (stands from to) xs (Ok i) → change_between xs from to ≡ Some (get_or xs i x).seconds
found_between xs from to i x strict inside is at =
    let tie : stands from to x ≡ Equal = subst (λ c. stands from to c ≡ Equal) (sym is) (at x) in
    ap (λ found. option_map (λ (c : Change). c.seconds) found)
    (find_here (is_sought from to) xs i x inside (sym is) (tied_sought from to x tie) (λ k low. not_true _ (λ sought.
    let less : change_cmp (get_or xs k x) (get_or xs i x) ≡ Less = strict k i x low inside in
    let equal : change_cmp (get_or xs k x) (get_or xs i x) ≡ Equal = ties_along from to (get_or xs k x) (get_or xs i x) (sought_ties from to (get_or xs k x) sought) (at x) in
    let f : Less ≡ Equal = sym less ∙ equal in
    cc)))
    ∙ ap (λ (c : Change). Some c.seconds) is

pub none_between : (xs : List Change) (from to : List ℕ) (i : ℕ) → InChangeOrder xs
    → IsBinarySearchResult (stands from to) xs (Err i) → change_between xs from to ≡ None
none_between xs from to i strict at =
    let key : Change → List ℕ × List ℕ = λ c. (c.from, c.to) in
    let total : IsTotalOrder (then_cmp (on (λ (p : List ℕ × List ℕ). p.0) id_cmp) (on (λ (p : List ℕ × List ℕ). p.1) id_cmp)) =
    then_total (on_total (λ (p : List ℕ × List ℕ). p.0) nat_list_cmp_total) (on_total (λ (p : List ℕ × List ℕ). p.1) nat_list_cmp_total) in
    let parts = at (searchable_from_sorted total key xs (from, to) (sorted_from_strict change_cmp change_cmp_total xs strict)) in
    ap (λ found. option_map (λ (c : Change). c.seconds) found)
    (find_none (is_sought from to) xs (λ k d inside. not_true _ (λ sought.
    let equal : stands from to (get_or xs k d) ≡ Equal = sought_ties from to (get_or xs k d) sought in
    ⊎_elim
    (λ (low : k < i). let f : Less ≡ Equal = sym (parts.0 k d (omega arith) low) ∙ equal in cc)
    (λ (high : i ≤ k). let f : Greater ≡ Equal = sym (parts.1 k d high inside) ∙ equal in cc)
    (cases_lt k i))))
