-- Connections whose departures never fall, and their parts between two moments.
use Rattle.std.proofs.Common.{◌≡◌, ℕ, zero, suc, subst, ◌<◌, ◌≤◌, inl, inr, List, [], ◌∷◌, ◌++◌, Bool, true, false, Option, Some, None, refl, ap, sym, ◌∙◌, arith}
use Rattle.std.specs.Prelude.{nat_le, ◌&&◌}
use Rattle.std.specs.List.{All, Contains}
use Rattle.std.specs.Ordering.{nat_cmp, ordering_then}
use Rattle.std.specs.declared.cmp.Ordering.{Ordering}
use Rattle.std.specs.declared.cmp.Ordering.TheVariants.{Less, Equal, Greater}
use Rattle.std.proofs.lemmas.Bool.{cases_lt, le-leb}
use Rattle.std.proofs.lemmas.Bool.Decides.{nat_tests}
use Rattle.std.proofs.lemmas.Cmp.{ranked}
use Rattle.std.proofs.lemmas.List.Elements.{All-cons, All-contains, All-map, All-weaker}
use Rattle.lc_model.specs.Connection.{InDepartureOrder, departure_cmp}
use Rattle.lc_model.specs.RunKey.{key_cmp}
use Rattle.lc_model.specs.declared.connection.Connection.{Connection}
use Rattle.lc_model.specs.Versions.Cuts.{first_of}
use Rattle.lc_model.specs.Versions.Pages.{departing, departures_of, is_before}
use Rattle.convoy.proofs.PageLawsLemmas.FilterLemmas.{filter_all, filter_drops, filter_none, filter_takes, pairs_head, pairs_tail}
use Rattle.lc_model.proofs.ConnectionLemmas.{departs_by}

-- no connection departs before an earlier one of the list
abbrev pub Sorted : List Connection → Type 0
Sorted [] = Unit {0}
Sorted (c ∷ list) = All (λ (d : Connection). c.dep ≤ d.dep) list × Sorted list

pub sorted_from_order : (list : List Connection) → InDepartureOrder list → Sorted list
sorted_from_order [] in_order = tt
sorted_from_order (c ∷ list) in_order = (
  All-weaker (λ (d : Connection). departure_cmp c d ≡ Less) (λ (d : Connection). c.dep ≤ d.dep) (λ d. departs_by c d) list (pairs_head (λ (x y : Connection). departure_cmp x y ≡ Less) c list in_order),
  sorted_from_order list (pairs_tail (λ (x y : Connection). departure_cmp x y ≡ Less) c list in_order),
)

-- the test of a part
abbrev pub is_within : ℕ → Option ℕ → Connection → Bool
is_within from to c = nat_le from c.dep && is_before to c.dep

pub from_on : (from : ℕ) (c : Connection) → from ≤ c.dep → is_within from None c ≡ true
from_on from c after = grind (arith, nat_tests)

pub not_from_on : (from : ℕ) (c : Connection) → c.dep < from → is_within from None c ≡ false
not_from_on from c before = grind (arith, nat_tests)

pub between : (from to : ℕ) (c : Connection) → from ≤ c.dep → c.dep < to → is_within from (Some to) c ≡ true
between from to c after before = grind (arith, nat_tests)

pub below : (from : ℕ) (to : Option ℕ) (c : Connection) → c.dep < from → is_within from to c ≡ false
below from to c before = grind (arith, nat_tests)

pub beyond : (from to : ℕ) (c : Connection) → to ≤ c.dep → is_within from (Some to) c ≡ false
beyond from to c after = grind (arith, nat_tests)

-- all of a list that departs from a moment on is the part from there on
pub whole_part : (from : ℕ) (list : List Connection) → All (λ (c : Connection). from ≤ c.dep) list → departing from None list ≡ list
whole_part from list all =
    filter_all (is_within from None) list (All-weaker (λ (c : Connection). from ≤ c.dep) (λ c. is_within from None c ≡ true) (λ c. from_on from c) list all)

pub no_part_beyond : (from to : ℕ) (list : List Connection) → All (λ (c : Connection). to ≤ c.dep) list → departing from (Some to) list ≡ []
no_part_beyond from to list all =
    filter_none (is_within from (Some to)) list (All-weaker (λ (c : Connection). to ≤ c.dep) (λ c. is_within from (Some to) c ≡ false) (λ c. beyond from to c) list all)

-- what departs after a moment departs after an earlier one
pub all_after : (earlier moment : ℕ) (list : List Connection) → earlier ≤ moment → All (λ (c : Connection). moment ≤ c.dep) list → All (λ (c : Connection). earlier ≤ c.dep) list
all_after earlier moment list before all = All-weaker (λ (c : Connection). moment ≤ c.dep) (λ (c : Connection). earlier ≤ c.dep) (λ c h. omega arith) list all

-- a part up to a moment and the part from there on are the part of both
pub part_at : (from to : ℕ) (list : List Connection) → from ≤ to → Sorted list → departing from (Some to) list ++ departing to None list ≡ departing from None list
part_at from to [] rises sorted = refl
part_at from to (c ∷ list) rises sorted =
    let onward = part_at from to list rises sorted.1 in
    elim (cases_lt c.dep from) [
      | inl before ↦
          (let e : departing from (Some to) (c ∷ list) ≡ departing from (Some to) list = filter_drops (is_within from (Some to)) c list (below from (Some to) c before) in
          let f : departing to None (c ∷ list) ≡ departing to None list = filter_drops (is_within to None) c list (not_from_on to c (omega arith)) in
          let g : departing from None (c ∷ list) ≡ departing from None list = filter_drops (is_within from None) c list (not_from_on from c before) in
          rw (e, f, g) onward)
      | inr after ↦
          elim (cases_lt c.dep to) [
            | inl before ↦
                (let e : departing from (Some to) (c ∷ list) ≡ c ∷ departing from (Some to) list = filter_takes (is_within from (Some to)) c list (between from to c after before) in
                let f : departing to None (c ∷ list) ≡ departing to None list = filter_drops (is_within to None) c list (not_from_on to c before) in
                let g : departing from None (c ∷ list) ≡ c ∷ departing from None list = filter_takes (is_within from None) c list (from_on from c after) in
                rw (e, f, g) (ap (λ rest. c ∷ rest) onward))
            | inr beyond_to ↦
                (let all_to : All (λ (d : Connection). to ≤ d.dep) (c ∷ list) = All-cons (λ (d : Connection). to ≤ d.dep) c list beyond_to (all_after to c.dep list beyond_to sorted.0) in
                let e : departing from (Some to) (c ∷ list) ≡ [] = no_part_beyond from to (c ∷ list) all_to in
                let f : departing to None (c ∷ list) ≡ c ∷ list = whole_part to (c ∷ list) all_to in
                let g : departing from None (c ∷ list) ≡ c ∷ list = whole_part from (c ∷ list) (all_after from to (c ∷ list) rises all_to) in
                ap (λ rest. rest ++ departing to None (c ∷ list)) e ∙ f ∙ sym g)
          ]
    ]

-- an item of a list other than the first one is one of the rest
in_rest : (x y : ℕ) (list : List ℕ) → x < y → Contains (x ∷ list) y → Contains list y
in_rest x y list before (zero, within, is) = absurd (omega (arith, is))
in_rest x y list before (suc k, within, is) = (k, (omega arith), is)

-- what departs at the moment is within the part from there on
first_within : (from : ℕ) (to : Option ℕ) (c : Connection) → c.dep ≡ from → is_before to from ≡ true → is_within from to c ≡ true
first_within from to c same before =
    let P : ℕ → Type 0 = λ m. (nat_le from m && is_before to m) ≡ true in
    subst P (sym same) (let e : nat_le from from ≡ true = le-leb from from (omega arith) in rw e before)

-- the part from a departure on begins with it
pub part_begins : (from : ℕ) (to : Option ℕ) (list : List Connection) → Sorted list → Contains (departures_of list) from → is_before to from ≡ true →
    first_of (departures_of (departing from to list)) ≡ Some from
part_begins from to [] sorted is_one before = absurd (omega (arith, is_one.1))
part_begins from to (c ∷ list) sorted is_one before =
    let all_later : All (λ (m : ℕ). c.dep ≤ m) (departures_of (c ∷ list)) =
    All-map (λ (m : ℕ). c.dep ≤ m) (λ (d : Connection). d.dep) (c ∷ list) (All-cons (λ (d : Connection). c.dep ≤ d.dep) c list (omega arith) sorted.0) in
    let no_later : c.dep ≤ from = All-contains (λ (m : ℕ). c.dep ≤ m) (departures_of (c ∷ list)) from all_later is_one in
    elim (cases_lt c.dep from) [
      | inl earlier ↦
          (let e : departing from to (c ∷ list) ≡ departing from to list = filter_drops (is_within from to) c list (below from to c earlier) in
          rw e (part_begins from to list sorted.1 (in_rest c.dep from (departures_of list) earlier is_one) before))
      | inr at_it ↦
          (let same : c.dep ≡ from = omega arith in
          let e : departing from to (c ∷ list) ≡ c ∷ departing from to list = filter_takes (is_within from to) c list (first_within from to c same before) in
          rw e (ap Some same))
    ]
