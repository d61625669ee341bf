-- The first call at a stop from a place on, found among the sorted places of the calls.
use Rattle.std.proofs.Common.{◌≡◌, ◌∙◌, ℕ, ◌+◌, ◌-◌, ◌<◌, ◌≤◌, List, [], ◌∷◌, ◌++◌, length, drop, get_or, Bool, true, false, Some, None, option_map, refl, sym, ap, subst, arith, ⊎_elim}
use Rattle.std.specs.Cmp.{IsStrictWeakOrder}
use Rattle.std.specs.Cmp.Lexicographic.{lists_agrees, slice_partial_cmp}
use Rattle.std.specs.List.{HoldsAt}
use Rattle.std.specs.List.Sorted.{IsPartitionedBy, IsPartitionPoint, IsPermutation, IsSorted}
use Rattle.std.specs.Ordering.{as_partial_cmp, is_lt, is_some_and, nat_cmp, ordering_reverse, ordering_then, partial_ordering_then}
use Rattle.std.specs.declared.cmp.Ordering.{Ordering}
use Rattle.std.specs.declared.cmp.Ordering.TheVariants.{Less, Equal, Greater}
use Rattle.std.proofs.lemmas.Bool.{cases_lt, false_from_ne_true, true_from_ne_false}
use Rattle.std.proofs.lemmas.Bool.Decides.{nat_tests}
use Rattle.std.proofs.lemmas.Cmp.{nat_cmp_total, nat_list_cmp_total, on_total, then_total}
use Rattle.std.proofs.lemmas.List.{get_or-drop, length-drop}
use Rattle.std.proofs.lemmas.List.Elements.{All-push, Contains-append_left, Contains-push}
use Rattle.std.proofs.lemmas.List.Sorted.{All-permutation, Contains-permutation, ranks_by, sorted_far}
use Rattle.std.proofs.lemmas.Slice.Eq.{bytes_eq-Decides}
use Rattle.lc_model.specs.Change.{is_same_id}
use Rattle.lc_model.specs.Text.{id_cmp}
use Rattle.lc_model.specs.declared.call.Call.{Call}
use Rattle.lc_model.proofs.SearchLemmas.{id_tie, same_id}
use Rattle.lc_model.specs.Versions.Naming.{place_of}
use Rattle.live_calls.specs.Places.{ArePlaces, IsOfCall, is_before, place_cmp}
use Rattle.live_calls.specs.declared.naming.StopPlace.{StopPlace}
use Rattle.live_calls.proofs.NamingLemmas.{place_of-none, place_of-some}

-- one more call
pub ArePlaces-push : (calls : List Call) (count : ℕ) (places : List StopPlace) (p : StopPlace) → ArePlaces calls count places → p.place ≡ count → IsOfCall calls p → ArePlaces calls (count + 1) (places ++ p ∷ [])
ArePlaces-push calls count places p are here of_call = record {
  each = λ k less. ⊎_elim
      (λ (before : k < count). let (i, x, there, is, at) = are.each k before in let c = Contains-append_left places (p ∷ []) x (i, there, is) in (c.0, x, c.1, c.2, at))
      (λ (from : count ≤ k). let c = Contains-push places p in let same : k ≡ count = omega arith in (c.0, p, c.1, c.2, here ∙ sym same))
      (cases_lt k count);
  only = All-push (IsOfCall calls) places p are.only of_call;
}

-- a sort only moves them
pub ArePlaces-moved : (calls : List Call) (count : ℕ) (places moved : List StopPlace) → IsPermutation places moved → ArePlaces calls count places → ArePlaces calls count moved
ArePlaces-moved calls count places moved moves are = record {
  each = λ k less. let (i, x, there, is, at) = are.each k less in let c = Contains-permutation places moved x moves (i, there, is) in (c.0, x, c.1, c.2, at);
  only = All-permutation (IsOfCall calls) places moved moves are.only;
}

-- what `<` answers
pub is_before_stated : (p q : StopPlace) → is_some_and is_lt (partial_ordering_then (slice_partial_cmp (as_partial_cmp nat_cmp) p.stop.now q.stop.now) (Some (nat_cmp p.place q.place))) ≡ is_before p q
is_before_stated p q =
    ap (λ o. is_some_and is_lt (partial_ordering_then o (Some (nat_cmp p.place q.place)))) (lists_agrees {R = nat_cmp} (λ x y. refl) p.stop.now q.stop.now)
    ∙ then_stated (id_cmp p.stop.now q.stop.now) (nat_cmp p.place q.place) where
      then_stated : (o r : Ordering) → is_some_and is_lt (partial_ordering_then (Some o) (Some r)) ≡ is_lt (ordering_then o r)
      then_stated Less r = refl
      then_stated Equal r = refl
      then_stated Greater r = refl

ranks : IsStrictWeakOrder is_before
ranks = ranks_by (then_total (on_total (λ (p : StopPlace). p.stop.now) nat_list_cmp_total) (on_total (λ (p : StopPlace). p.place) nat_cmp_total)) (λ p. p)

-- what is before the asked place is in front
pub parted : (places : List StopPlace) (asked : StopPlace) → IsSorted place_cmp places → IsPartitionedBy (λ p. is_before p asked) places
parted places asked sorted = λ i j d le inside before. true_from_ne_false _ (λ not.
    let still : is_before (get_or places j d) asked ≡ false = ranks.chain (get_or places j d) (get_or places i d) asked (sorted_far is_before ranks places sorted i j d le inside) not in cc)

at_same_stop : (p q : StopPlace) → p.stop.now ≡ q.stop.now → is_before p q ≡ is_lt (nat_cmp p.place q.place)
at_same_stop p q same = ap (λ o. is_lt (ordering_then o (nat_cmp p.place q.place))) (same_id p.stop.now q.stop.now same)

is_less : (m n : ℕ) → is_lt (nat_cmp m n) ≡ true → m < n
is_less m n less = grind (arith, nat_tests)

is_not_less : (m n : ℕ) → is_lt (nat_cmp m n) ≡ false → n ≤ m
is_not_less m n less = grind (arith, nat_tests)

first_not_less : (o p : Ordering) → is_lt (ordering_then o p) ≡ false → is_lt o ≡ false
first_not_less Less p e = e
first_not_less Equal p e = refl
first_not_less Greater p e = refl

neither_less : (o p : Ordering) → o ≡ ordering_reverse p → is_lt o ≡ false → is_lt p ≡ false → o ≡ Equal
neither_less Less p e f g = cc
neither_less Equal p e f g = refl
neither_less Greater Less e f g = cc
neither_less Greater Equal e f g = cc
neither_less Greater Greater e f g = cc

-- what is between two places at one stop is at that stop
between : (p q r : StopPlace) → is_before q p ≡ false → is_before r q ≡ false → r.stop.now ≡ p.stop.now → q.stop.now ≡ p.stop.now
between p q r first second same =
    let low : is_lt (id_cmp q.stop.now p.stop.now) ≡ false = first_not_less _ (nat_cmp q.place p.place) first in
    let high : is_lt (id_cmp r.stop.now q.stop.now) ≡ false = first_not_less _ (nat_cmp r.place q.place) second in
    id_tie q.stop.now p.stop.now (neither_less _ _ (nat_list_cmp_total.antisymm q.stop.now p.stop.now) low (subst (λ s. is_lt (id_cmp s q.stop.now) ≡ false) same high))

module _ (calls : List Call) (places : List StopPlace) (are : ArePlaces calls (length calls) places) (sorted : IsSorted place_cmp places) (asked : StopPlace) (at : ℕ) (point : IsPartitionPoint (λ p. is_before p asked ≡ true) (λ p. is_before p asked ≡ false) places at) where
  abbrev is_there : Call → Bool
  is_there call = is_same_id call.stop asked.stop.now

  -- the place of a call at the asked stop, from the asked place on, in the list
  record Stands (j : ℕ) : Type 0 where
    item : StopPlace
    k : ℕ
    from : at ≤ k
    inside : k < length places
    is : get_or places k item ≡ item
    place : item.place ≡ j
    stop : item.stop.now ≡ asked.stop.now

  stands : (j : ℕ) (d : Call) → asked.place ≤ j → j < length calls → is_there (get_or calls j d) ≡ true → Stands j
  stands j d from inside there =
      let (k, item, low, is, place) = are.each j inside in
      let of_call : IsOfCall calls item = subst (IsOfCall calls) is (are.only k item low) in
      let stop : item.stop.now ≡ asked.stop.now = of_call.1 d ∙ ap (λ n. (get_or calls n d).stop) place ∙ (bytes_eq-Decides (get_or calls j d).stop asked.stop.now).0 there in
      let behind : at ≤ k = ⊎_elim
      (λ (before : k < at).
      let less : item.place < asked.place = is_less item.place asked.place (sym (at_same_stop item asked stop) ∙ subst (λ p. is_before p asked ≡ true) is (point.0 k item (omega arith) before)) in
      absurd (omega arith))
      (λ (behind : at ≤ k). behind)
      (cases_lt k at) in
      record { item = item; k = k; from = behind; inside = low; is = is; place = place; stop = stop }

  none_from : ((j : ℕ) (d : Call) → asked.place ≤ j → j < length calls → is_there (get_or calls j d) ≡ true → ⊥) → place_of is_there (drop asked.place calls) ≡ None
  none_from none = place_of-none is_there (drop asked.place calls) (λ k d inside.
      rw (get_or-drop asked.place calls k d) (false_from_ne_true _ (none (asked.place + k) d (omega arith) (omega (arith, inside, length-drop asked.place calls)))))

  -- no place is the asked one or after it
  pub none_at_end : length places ≤ at → place_of is_there (drop asked.place calls) ≡ None
  none_at_end end = none_from (λ j d from inside there. let s = stands j d from inside there in absurd (omega (arith, s.from, s.inside)))

  module _ (found : StopPlace) (within : at < length places) (is : HoldsAt (λ y. found ≡ y) places at) where
    found_from : is_before found asked ≡ false
    found_from = subst (λ p. is_before p asked ≡ false) (sym (is found)) (point.1 at found (omega arith) within)

    behind_found : (j : ℕ) (s : Stands j) → is_before s.item found ≡ false
    behind_found j s =
        subst (λ p. is_before p found ≡ false) s.is (subst (λ p. is_before (get_or places s.k s.item) p ≡ false) (sym (is s.item))
        (sorted_far is_before ranks places sorted at s.k s.item s.from s.inside))

    -- the first one from there on is of another stop
    pub none_behind : is_same_id found.stop.now asked.stop.now ≡ false → place_of is_there (drop asked.place calls) ≡ None
    none_behind other = none_from (λ j d from inside there.
        let s = stands j d from inside there in
        let same = (bytes_eq-Decides found.stop.now asked.stop.now).1 (between asked found s.item found_from (behind_found j s) s.stop) in
        absurd (let f : true ≡ false = sym same ∙ other in cc))

    -- the first one from there on is of the asked stop
    pub first_behind : is_same_id found.stop.now asked.stop.now ≡ true → Some found.place ≡ option_map (λ k. asked.place + k) (place_of is_there (drop asked.place calls))
    first_behind same =
        let stop : found.stop.now ≡ asked.stop.now = (bytes_eq-Decides found.stop.now asked.stop.now).0 same in
        let low : asked.place ≤ found.place = is_not_less found.place asked.place (sym (at_same_stop found asked stop) ∙ found_from) in
        let of_call : IsOfCall calls found = subst (IsOfCall calls) (sym (is found)) (are.only at found within) in
        let k : ℕ = found.place - asked.place in
        let there : asked.place + k ≡ found.place = omega arith in
        sym (ap (option_map (λ k. asked.place + k)) (place_of-some is_there (drop asked.place calls) k (omega (arith, of_call.0, length-drop asked.place calls))
        (λ d. rw (get_or-drop asked.place calls k d) (rw there ((bytes_eq-Decides _ asked.stop.now).1 (sym (of_call.1 d) ∙ stop))))
        (λ j d before. rw (get_or-drop asked.place calls j d) (false_from_ne_true _ (λ at_stop.
        let s = stands (asked.place + j) d (omega arith) (omega (arith, of_call.0)) at_stop in
        let high : found.place ≤ s.item.place = is_not_less s.item.place found.place (sym (at_same_stop s.item found (s.stop ∙ sym stop)) ∙ behind_found _ s) in
        absurd (omega (arith, s.place)))))) ∙ ap Some there)
