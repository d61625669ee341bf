-- What departs in a span, and what departs at all, sorted for itself, is in the order that it has among all connections.
use Rattle.std.proofs.Common.{◌≡◌, ◌≢◌, ℕ, ◌<◌, ◌≤◌, List, [], ◌∷◌, cond, eqb, true, false, refl, sym, ap, ◌∙◌, subst, arith, ⊎_elim}
use Rattle.std.specs.Prelude.{◌&&◌, nat_le}
use Rattle.std.specs.List.{All, AllPairs, Contains, sum_by}
use Rattle.std.specs.List.Sorted.{IsPermutation}
use Rattle.std.specs.declared.cmp.Ordering.TheVariants.{Less, Equal}
use Rattle.std.proofs.lemmas.Bool.{cases_lt}
use Rattle.std.proofs.lemmas.Bool.Decides.{eqb_tells}
use Rattle.std.proofs.lemmas.List.Elements.{All-cons, All-head, All-tail, All-weaker}
use Rattle.std.proofs.lemmas.List.Kept.{AllPairs-filter}
use Rattle.std.proofs.lemmas.List.Sorted.{Contains-permutation, IsPermutation-map, IsPermutation-sym, IsPermutation-trans, sum_by-IsPermutation}
use Rattle.std.proofs.lemmas.List.Sums.{sum_by-cons}
use Rattle.lc_model.specs.Connection.{connections_of, departure_cmp}
use Rattle.lc_model.specs.Order.{AreApart, IsStrict}
use Rattle.lc_model.specs.Totals.{departure_cmp_total}
use Rattle.lc_model.specs.declared.connection.Connection.{Connection}
use Rattle.lc_model.specs.declared.run.Run.{Run}
use Rattle.lc_model.proofs.ConnectionLemmas.{departs_by}
use Rattle.lc_model.proofs.ListLemmas.{AllPairs-head, AllPairs-map, AllPairs-tail, AllPairs-weaker, Contains-filter, IsKept-filter}
use Rattle.lc_model.proofs.OrdersLemmas.{IsStrict-from_sorted, apart_permuted, strict_lists_are_one}
use Rattle.lc_model.specs.Versions.Cuts.{NeverFalls}
use Rattle.lc_model.specs.Versions.Pages.{departing, departures_of, is_before}
use Rattle.version_store.specs.IndexLaws.Rows.{AreSound, OrderedAreDepartures, SortedAreRows}
use Rattle.version_store.proofs.IndexLawsLemmas.InOrderLemmas.{untied}
use Rattle.lc_model.proofs.PlacedLemmas.{in_strict_order}

abbrev Untied : Connection → Connection → Type 0
Untied c d = departure_cmp c d ≢ Equal

-- the connections of sound runs, in whatever order, do not tie, and there is a list of them in departure order
record Ordered (held : List Run) (walked : List Connection) : Type 0 where
  apart : AreApart departure_cmp walked
  all : List Connection
  moved : IsPermutation walked all
  of_held : IsPermutation (connections_of held) all
  strict : IsStrict departure_cmp all

ordered : (held : List Run) (walked : List Connection) → AreSound held → IsPermutation (connections_of held) walked → Ordered held walked
ordered held walked sound has =
    let apart : AreApart departure_cmp walked = apart_permuted departure_cmp departure_cmp_total (connections_of held) walked has (untied held sound.apart sound.forward) in
    let some = in_strict_order departure_cmp departure_cmp_total walked apart in
    record { apart = apart; all = some.0; moved = some.1.0; of_held = IsPermutation-trans (connections_of held) walked some.0 has some.1.0; strict = some.1.1 }

pub sorted_rows : SortedAreRows
sorted_rows held from to walked made sorted sound has e moved by_departure =
    let p = λ (c : Connection). nat_le from c.dep && is_before to c.dep in
    let in_order = ordered held walked sound has in
    let all = in_order.all in
    let apart : AreApart departure_cmp made = subst (AllPairs Untied) (sym e) (AllPairs-filter Untied p walked in_order.apart) in
    record {
      all = all;
      are_connections = record { all = in_order.of_held; in_order = in_order.strict };
      departing =
          strict_lists_are_one departure_cmp departure_cmp_total sorted (departing from to all)
          (IsStrict-from_sorted departure_cmp departure_cmp_total made sorted moved by_departure apart)
          (AllPairs-filter (λ (c d : Connection). departure_cmp c d ≡ Less) p all in_order.strict)
          (λ c there.
          let kept = IsKept-filter p walked c (subst (λ v. Contains v c) e (Contains-permutation sorted made c (IsPermutation-sym made sorted moved) there)) in
          Contains-filter p all c (Contains-permutation walked all c in_order.moved kept.stands) kept.passes)
          (λ c there.
          let kept = IsKept-filter p all c there in
          let stands = Contains-permutation all walked c (IsPermutation-sym walked all in_order.moved) kept.stands in
          Contains-permutation made sorted c moved (subst (λ v. Contains v c) (sym e) (Contains-filter p walked c stands kept.passes)));
    }

-- whether it is this number, and how often it is in a list
is_it : ℕ → ℕ → ℕ
is_it n m = cond (eqb m n) 1 0

abbrev count : ℕ → List ℕ → ℕ
count n list = sum_by (is_it n) list

counts_itself : (n : ℕ) (list : List ℕ) → 0 < count n (n ∷ list)
unfolding is_it
counts_itself n list =
    ⊎_elim
    (λ (same : (eqb n n ≡ true) × (n ≡ n)). omega (arith, sum_by-cons (is_it n) n list, ap {B = ℕ} (λ b. cond b 1 0) same.0))
    (λ (other : (eqb n n ≡ false) × (n ≢ n)). absurd (other.1 refl))
    (eqb_tells n n)

counts_no_greater : (n : ℕ) (list : List ℕ) → All (λ m. n < m) list → count n list ≡ 0
unfolding is_it
counts_no_greater n [] greater = refl
counts_no_greater n (m ∷ list) greater =
    let above = All-head (λ m. n < m) m list greater in
    ⊎_elim
    (λ (same : (eqb m n ≡ true) × (m ≡ n)). absurd (omega (arith, same.1, above)))
    (λ (other : (eqb m n ≡ false) × (m ≢ n)). omega (arith, sum_by-cons (is_it n) m list, ap {B = ℕ} (λ b. cond b 1 0) other.0, counts_no_greater n list (All-tail (λ m. n < m) m list greater)))
    (eqb_tells m n)

-- a list that begins with a greater number lacks the other's first one
not_below : (m n : ℕ) (ms ns : List ℕ) → NeverFalls (n ∷ ns) → count m (m ∷ ms) ≡ count m (n ∷ ns) → m < n → ⊥
not_below m n ms ns up same less =
    let behind = All-weaker (λ k. n ≤ k) (λ k. m < k) (λ k le. omega (arith, less, le)) ns (AllPairs-head (λ m n. m ≤ n) n ns up) in
    let none = counts_no_greater m (n ∷ ns) (All-cons (λ k. m < k) n ns less behind) in
    omega (arith, counts_itself m ms, same, none)

nothing_counted : (m : ℕ) (ms : List ℕ) → 0 ≡ count m (m ∷ ms) → ⊥
nothing_counted m ms none = omega (arith, none, counts_itself m ms)

-- lists that never fall, in which each number is as often, are one
one_order : (ms ns : List ℕ) → NeverFalls ms → NeverFalls ns → ((k : ℕ) → count k ms ≡ count k ns) → ms ≡ ns
one_order [] [] ms_up ns_up same = refl
one_order [] (n ∷ ns) ms_up ns_up same = absurd (nothing_counted n ns (same n))
one_order (m ∷ ms) [] ms_up ns_up same = absurd (nothing_counted m ms (sym (same m)))
one_order (m ∷ ms) (n ∷ ns) ms_up ns_up same =
    ⊎_elim (λ (below : m < n). absurd (not_below m n ms ns ns_up (same m) below))
    (λ (from : n ≤ m).
    ⊎_elim (λ (above : n < m). absurd (not_below n m ns ms ms_up (sym (same n)) above))
    (λ (to : m ≤ n).
    let first : m ≡ n = omega (arith, from, to) in
    let counts = λ (k : ℕ). sym (sum_by-cons (is_it k) m ms) ∙ same k ∙ sum_by-cons (is_it k) n ns in
    let rest : ms ≡ ns =
    one_order ms ns (AllPairs-tail (λ m n. m ≤ n) m ms ms_up) (AllPairs-tail (λ m n. m ≤ n) n ns ns_up)
    (λ k. omega (arith, counts k, ap (is_it k) first)) in
    rw (first, rest) refl)
    (cases_lt n m))
    (cases_lt m n)

pub ordered_departures : OrderedAreDepartures
ordered_departures held walked made departures sound has e moved up =
    let in_order = ordered held walked sound has in
    let all = in_order.all in
    let dep = λ (c : Connection). c.dep in
    record {
      all = all;
      are_connections = record { all = in_order.of_held; in_order = in_order.strict };
      one_each =
          one_order departures (departures_of all) up
          (AllPairs-map (λ m n. m ≤ n) dep all (AllPairs-weaker (λ (c d : Connection). departure_cmp c d ≡ Less) (λ (c d : Connection). c.dep ≤ d.dep) all (λ c d in_c in_d less. departs_by c d less) in_order.strict))
          (λ k.
          sum_by-IsPermutation (is_it k) made departures moved ∙ ap (count k) e
          ∙ sym (sum_by-IsPermutation (is_it k) (departures_of walked) (departures_of all) (IsPermutation-map dep walked all in_order.moved)));
    }
