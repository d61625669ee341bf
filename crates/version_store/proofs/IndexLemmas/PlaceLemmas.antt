-- The order of places is total and distinguishes places, and a span of departures is a range in it.
use Rattle.std.proofs.Common.{◌≡◌, ℕ, ◌+◌, ◌-◌, ◌<◌, ◌≤◌, inl, inr, List, [], ◌∷◌, ◌++◌, length, get_or, take, drop, cond, Option, Some, None, Bool, true, false, not, refl, sym, ap, ◌∙◌, subst, arith}
use Rattle.std.specs.Prelude.{◌&&◌, max, nat_le, nat_lt}
use Rattle.std.specs.BTreeMap.Range.{range_contains}
use Rattle.std.specs.Cmp.{IsTotalOrder, nat_cmp_total, on_total, then_total}
use Rattle.std.specs.List.{filter}
use Rattle.std.specs.List.Sorted.{IsPartitionPoint, IsPartitionedBy}
use Rattle.std.specs.Ordering.{is_gt, is_le, is_lt, nat_cmp, ordering_reverse, ordering_then}
use Rattle.std.specs.declared.cmp.Ordering.{Ordering}
use Rattle.std.specs.declared.cmp.Ordering.TheVariants.{Equal, Greater, Less}
use Rattle.std.specs.declared.ops.Bound.TheVariants.{Included}
use Rattle.std.proofs.lemmas.Bool.{cases_lt}
use Rattle.std.proofs.lemmas.Bool.Decides.{nat_tests}
use Rattle.std.proofs.lemmas.Cmp.{ranked}
use Rattle.std.proofs.lemmas.List.{append-nil, get_or-drop, get_or-take, length-drop, length-take, take-append-drop, take_all}
use Rattle.std.proofs.lemmas.List.Elements.{filter-append}
use Rattle.std.proofs.lemmas.Map.Lookups.{CmpEqualImpliesEq}
use Rattle.lc_model.specs.Order.{IsStrict}
use Rattle.lc_model.proofs.RangesLemmas.{filter_all, filter_none}
use Rattle.lc_model.proofs.SearchLemmas.{both_tie}
use Rattle.version_store.specs.Index.Places.{end_of, first_at, is_between, place_cmp}
use Rattle.version_store.specs.declared.index.place.Place.{Place}

pub place_cmp_total : IsTotalOrder place_cmp
place_cmp_total =
    then_total (on_total (λ (p : Place). p.dep) nat_cmp_total)
    (then_total (on_total (λ (p : Place). p.state) nat_cmp_total) (on_total (λ (p : Place). p.at) nat_cmp_total))

pub same_number : (x y : ℕ) → nat_cmp x y ≡ Equal → x ≡ y
same_number x y e = ranked x y Equal (sym e)

pub same_parts : (p q : Place) → p.dep ≡ q.dep → p.state ≡ q.state → p.at ≡ q.at → p ≡ q
same_parts p q d s a = λ i. record { dep = d i; state = s i; at = a i }

pub place_exact : CmpEqualImpliesEq place_cmp
place_exact p q e =
    let h = both_tie (nat_cmp p.dep q.dep) (ordering_then (nat_cmp p.state q.state) (nat_cmp p.at q.at)) e in
    let k = both_tie (nat_cmp p.state q.state) (nat_cmp p.at q.at) h.1 in
    same_parts p q (same_number p.dep q.dep h.0) (same_number p.state q.state k.0) (same_number p.at q.at k.1)

first_is_least : (a b s t : ℕ) → is_le (ordering_then (nat_cmp a b) (ordering_then (nat_cmp 0 s) (nat_cmp 0 t))) ≡ nat_le a b
first_is_least a b s t = grind (arith, nat_tests)

ends_before : (from to dep : ℕ) → (nat_le from dep && not (nat_le (max from to) dep)) ≡ (nat_le from dep && nat_lt dep to)
ends_before from to dep = grind (arith, nat_tests)

no_end : (b : Bool) → (b && true) ≡ (b && not false)
no_end b = refl

-- the places of a span of departures are a range
pub in_span : (from : ℕ) (to : Option ℕ) (p : Place) → range_contains place_cmp (Included (first_at from)) (end_of from to) p ≡ is_between from to p
in_span from None p = ap (λ b. b && true) (first_is_least from p.dep p.state p.at)
in_span from (Some to) p =
    ap (λ b. b && not (is_le (place_cmp (first_at (max from to)) p))) (first_is_least from p.dep p.state p.at)
    ∙ ap (λ b. nat_le from p.dep && not b) (first_is_least (max from to) p.dep p.state p.at)
    ∙ ends_before from to p.dep

-- the range of a span does not end before it begins
pub goes_on : (from to : ℕ) → is_gt (place_cmp (first_at from) (first_at (max from to))) ≡ false
goes_on from to = grind (arith, nat_tests)

-- ---- the places of a list in departure order that depart from a moment on, and before another one

first_falls : (o p : Ordering) → ordering_then o p ≡ Less → is_lt (ordering_reverse o) ≡ false
first_falls Less p e = refl
first_falls Equal p e = refl
first_falls Greater p e = absurd (cc)

-- an earlier place departs no later
departs_by : (places : List Place) → IsStrict place_cmp places → (i j : ℕ) (d : Place) → i ≤ j → j < length places → (get_or places i d).dep ≤ (get_or places j d).dep
departs_by places up i j d to inside = elim (cases_lt i j) [
  | inl before ↦
      let p = get_or places i d in
      let q = get_or places j d in
      let less = first_falls (nat_cmp p.dep q.dep) (ordering_then (nat_cmp p.state q.state) (nat_cmp p.at q.at)) (up i j d before inside) in
      no_later p.dep q.dep (nat_cmp p.dep q.dep) refl less
  | inr from ↦ let same : i ≡ j = omega (arith, to, from) in subst (λ n. (get_or places i d).dep ≤ (get_or places n d).dep) same (omega arith)
] where
  no_later : (a b : ℕ) (o : Ordering) → nat_cmp a b ≡ o → is_lt (ordering_reverse o) ≡ false → a ≤ b
  no_later a b Less e f = let h = ranked a b Less (sym e) in omega arith
  no_later a b Equal e f = let h = ranked a b Equal (sym e) in omega arith
  no_later a b Greater e f = absurd (cc)

-- whether a place departs before a moment
abbrev pub leaves_before : ℕ → Place → Bool
leaves_before moment p = nat_lt p.dep moment

pub parted : (places : List Place) (moment : ℕ) → IsStrict place_cmp places → IsPartitionedBy (leaves_before moment) places
parted places moment up i j d to inside e =
    let by = departs_by places up i j d to inside in
    earlier (get_or places i d).dep (get_or places j d).dep moment by e where
      earlier : (a b m : ℕ) → a ≤ b → nat_lt b m ≡ true → nat_lt a m ≡ true
      earlier a b m le e = grind (arith, nat_tests)

-- those from a point on
pub from_point : (places : List Place) (moment point : ℕ) → point ≤ length places → IsPartitionPoint (λ p. leaves_before moment p ≡ true) (λ p. leaves_before moment p ≡ false) places point
    → take (length places - point) (drop point places) ≡ filter (λ (p : Place). nat_le moment p.dep) places
from_point places moment point within is =
    let test = λ (p : Place). nat_le moment p.dep in
    take_all (length places - point) (drop point places) (omega (arith, length-drop point places))
    ∙ sym
    (ap (filter test) (sym (take-append-drop point places)) ∙ filter-append test (take point places) (drop point places)
    ∙ ap (λ v. v ++ filter test (drop point places)) (filter_none test (take point places) (λ k d inside. let low : k < point = omega (arith, length-take point places, inside) in
    rw (get_or-take point places k d low) (not_from moment (get_or places k d).dep (is.0 k d (omega arith) low))))
    ∙ filter_all test (drop point places) (λ k d inside. let low : point + k < length places = omega (arith, length-drop point places, inside) in
    rw (get_or-drop point places k d) (on_from moment (get_or places (point + k) d).dep (is.1 (point + k) d (omega arith) low)))) where
      not_from : (m a : ℕ) → nat_lt a m ≡ true → nat_le m a ≡ false
      not_from m a e = grind (arith, nat_tests)

      on_from : (m a : ℕ) → nat_lt a m ≡ false → nat_le m a ≡ true
      on_from m a e = grind (arith, nat_tests)

-- those up to a point
pub to_point : (places : List Place) (moment point : ℕ) → point ≤ length places → IsPartitionPoint (λ p. leaves_before moment p ≡ true) (λ p. leaves_before moment p ≡ false) places point
    → take point places ≡ filter (leaves_before moment) places
to_point places moment point within is =
    let test = leaves_before moment in
    sym
    (ap (filter test) (sym (take-append-drop point places)) ∙ filter-append test (take point places) (drop point places)
    ∙ ap (λ v. v ++ filter test (drop point places)) (filter_all test (take point places) (λ k d inside. let low : k < point = omega (arith, length-take point places, inside) in
    rw (get_or-take point places k d low) (is.0 k d (omega arith) low)))
    ∙ ap (λ v. take point places ++ v) (filter_none test (drop point places) (λ k d inside. let low : point + k < length places = omega (arith, length-drop point places, inside) in
    rw (get_or-drop point places k d) (is.1 (point + k) d (omega arith) low)))
    ∙ append-nil (take point places))

-- one test after the other
pub filter_both : {X : Type 0} (f g : X → Bool) (xs : List X) → filter g (filter f xs) ≡ filter (λ x. f x && g x) xs
filter_both f g [] = refl
filter_both {X} f g (x ∷ xs) = go (f x) (filter_both f g xs) where
  go : (b : Bool) → filter g (filter f xs) ≡ filter (λ y. f y && g y) xs → filter g (cond b (x ∷ filter f xs) (filter f xs)) ≡ cond (b && g x) (x ∷ filter (λ y. f y && g y) xs) (filter (λ y. f y && g y) xs)
  go true rest = ap (λ v. cond (g x) (x ∷ v) v) rest
  go false rest = rest
