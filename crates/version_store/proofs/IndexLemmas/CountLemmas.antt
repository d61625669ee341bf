-- Numbers in their order are known by how often each is among them.
use Rattle.std.proofs.Common.{◌≡◌, ◌≢◌, ℕ, ◌<◌, ◌≤◌, List, [], ◌∷◌, cond, eqb, true, false, refl, sym, ap, ◌∙◌, arith, ⊎_elim}
use Rattle.std.specs.List.{All, AllPairs, sum_by}
use Rattle.std.proofs.lemmas.Bool.{cases_lt}
use Rattle.std.proofs.lemmas.Bool.Decides.{eqb_tells}
use Rattle.std.proofs.lemmas.List.Elements.{All-cons, All-head, All-tail, All-weaker}
use Rattle.std.proofs.lemmas.List.Sums.{sum_by-cons}
use Rattle.lc_model.proofs.ListLemmas.{AllPairs-head, AllPairs-tail}

-- whether it is this number, and how often it is in a list
pub is_it : ℕ → ℕ → ℕ
is_it n m = cond (eqb m n) 1 0

abbrev pub count : ℕ → List ℕ → ℕ
count n list = sum_by (is_it n) list

counts_itself : (n : ℕ) (list : List ℕ) → 0 < count n (n ∷ list)
unfolding is_it
counts_itself n list =
    ⊎_elim
    (λ (same : (eqb n n ≡ true) × (n ≡ n)). omega (arith, sum_by-cons (is_it n) n list, ap {B = ℕ} (λ b. cond b 1 0) same.0))
    (λ (other : (eqb n n ≡ false) × (n ≢ n)). absurd (other.1 refl))
    (eqb_tells n n)

counts_no_greater : (n : ℕ) (list : List ℕ) → All (λ m. n < m) list → count n list ≡ 0
unfolding is_it
counts_no_greater n [] greater = refl
counts_no_greater n (m ∷ list) greater =
    let above = All-head (λ m. n < m) m list greater in
    ⊎_elim
    (λ (same : (eqb m n ≡ true) × (m ≡ n)). absurd (omega (arith, same.1, above)))
    (λ (other : (eqb m n ≡ false) × (m ≢ n)). omega (arith, sum_by-cons (is_it n) m list, ap {B = ℕ} (λ b. cond b 1 0) other.0, counts_no_greater n list (All-tail (λ m. n < m) m list greater)))
    (eqb_tells m n)

abbrev pub NeverFalls : List ℕ → Type 0
NeverFalls list = AllPairs (λ m n. m ≤ n) list

-- a list that begins with a greater number lacks the other's first one
not_below : (m n : ℕ) (ms ns : List ℕ) → NeverFalls (n ∷ ns) → count m (m ∷ ms) ≡ count m (n ∷ ns) → m < n → ⊥
not_below m n ms ns up same less =
    let behind = All-weaker (λ k. n ≤ k) (λ k. m < k) (λ k le. omega (arith, less, le)) ns (AllPairs-head (λ m n. m ≤ n) n ns up) in
    let none = counts_no_greater m (n ∷ ns) (All-cons (λ k. m < k) n ns less behind) in
    omega (arith, counts_itself m ms, same, none)

nothing_counted : (m : ℕ) (ms : List ℕ) → 0 ≡ count m (m ∷ ms) → ⊥
nothing_counted m ms none = omega (arith, none, counts_itself m ms)

-- lists that never fall, in which each number is as often, are one
pub one_order : (ms ns : List ℕ) → NeverFalls ms → NeverFalls ns → ((k : ℕ) → count k ms ≡ count k ns) → ms ≡ ns
one_order [] [] ms_up ns_up same = refl
one_order [] (n ∷ ns) ms_up ns_up same = absurd (nothing_counted n ns (same n))
one_order (m ∷ ms) [] ms_up ns_up same = absurd (nothing_counted m ms (sym (same m)))
one_order (m ∷ ms) (n ∷ ns) ms_up ns_up same =
    ⊎_elim (λ (below : m < n). absurd (not_below m n ms ns ns_up (same m) below))
    (λ (from : n ≤ m).
    ⊎_elim (λ (above : n < m). absurd (not_below n m ns ms ms_up (sym (same n)) above))
    (λ (to : m ≤ n).
    let first : m ≡ n = omega (arith, from, to) in
    let counts = λ (k : ℕ). sym (sum_by-cons (is_it k) m ms) ∙ same k ∙ sum_by-cons (is_it k) n ns in
    let rest : ms ≡ ns =
    one_order ms ns (AllPairs-tail (λ m n. m ≤ n) m ms ms_up) (AllPairs-tail (λ m n. m ≤ n) n ns ns_up)
    (λ k. omega (arith, counts k, ap (is_it k) first)) in
    rw (first, rest) refl)
    (cases_lt n m))
    (cases_lt m n)
