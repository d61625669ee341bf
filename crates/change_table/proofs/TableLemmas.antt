-- The changes stop by stop are exactly the changes, in their order, and as many as there are pairs.
use Rattle.std.proofs.Common.{◌≡◌, ℕ, ◌+◌, max, List, [], ◌∷◌, Option, Some, None, length, Bool, true, false, cond, ◌&&◌, sym, ap, ◌∙◌, subst, refl, arith}
use Rattle.std.specs.Prelude.{count_by, find, is_some, option_map, sum_by}
use Rattle.std.specs.List.{Contains, cons_option, filter_map, slice_get}
use Rattle.std.specs.Option.{option_and_then}
use Rattle.std.specs.Ordering.{ordering_then}
use Rattle.std.specs.declared.cmp.Ordering.{Ordering}
use Rattle.std.specs.declared.cmp.Ordering.TheVariants.{Less}
use Rattle.std.proofs.lemmas.List.Concat.{length-flat_map}
use Rattle.std.proofs.lemmas.List.Sums.{sum_by-cons}
use Rattle.std.proofs.lemmas.Slice.Eq.{bytes_eq-Decides}
use Rattle.lc_model.specs.Change.{InChangeOrder, change_between, change_cmp, is_same_id}
use Rattle.lc_model.specs.Stop.{InStopOrder}
use Rattle.lc_model.specs.Text.{id_cmp}
use Rattle.lc_model.specs.Totals.{change_cmp_total}
use Rattle.lc_model.specs.declared.change.Change.{Change}
use Rattle.lc_model.specs.declared.stop.Stop.{Stop}
use Rattle.lc_model.proofs.OrdersLemmas.{strict_lists_are_one}
use Rattle.gtfs_tables.specs.declared.calendars.transfer.Transfer.{Transfer}
use Rattle.change_table.specs.ChangeRule.{change_from_to, change_of, given_seconds, stop_of}
use Rattle.change_table.specs.ChangeTable.{AreChangesOf, OneListOfChanges, count_of_changes}
use Rattle.change_table.specs.Pairs.{changes_among, changes_to, timed_change}
use Rattle.lc_model.proofs.ListLemmas.{AllPairs-flat_map, Contains-flat_map, StandsIn-flat_map}
use Rattle.change_table.proofs.ListLemmas.{Contains-filter_map, IsKept-find, IsMade-filter_map, find_none}
use Rattle.change_table.proofs.NamedLemmas.{InChangeOrder-changes_to, is_timed}
use Rattle.change_table.proofs.PartnerLemmas.{one_place}
use Rattle.change_table.proofs.PushLemmas.{change_is}
use Rattle.std.proofs.lemmas.Option.{slice_get_read}

-- a stop is the stop of its id
stop_there : (stops : List Stop) → InStopOrder stops → (stop : Stop) → Contains stops stop → stop_of stops stop.id ≡ Some stop
stop_there stops strict stop h = go (stop_of stops stop.id) refl where
  at_place : (s : Stop) → Contains stops s → (t : Stop) → Contains stops t → s.id ≡ t.id → s ≡ t
  at_place s (i, li, at_i) t (j, lj, at_j) same =
      let e : i ≡ j = one_place stops strict i j s t (slice_get_read stops (length stops) i s refl li (sym at_i)) (slice_get_read stops (length stops) j t refl lj (sym at_j)) same in
      let f : Some s ≡ Some t = sym (slice_get_read stops (length stops) i s refl li (sym at_i)) ∙ ap (λ k. slice_get stops k) e ∙ slice_get_read stops (length stops) j t refl lj (sym at_j) in
      cc

  go : (o : Option Stop) → stop_of stops stop.id ≡ o → stop_of stops stop.id ≡ Some stop
  go (Some t) e =
      let found = IsKept-find (λ (s : Stop). is_same_id s.id stop.id) stops t e in
      e ∙ ap Some (at_place t found.stands stop h ((bytes_eq-Decides t.id stop.id).0 found.passes))
  go None e = absurd (find_none (λ (s : Stop). is_same_id s.id stop.id) stops stop e h ((bytes_eq-Decides stop.id stop.id).1 refl))

-- a change between two stops, with these seconds
record IsGiven (stops : List Stop) (given : Stop → Stop → Option ℕ) (from to : List ℕ) (seconds : ℕ) : Type 0 where
  a : Stop
  b : Stop
  a_stands : Contains stops a
  b_stands : Contains stops b
  a_is : a.id ≡ from
  b_is : b.id ≡ to
  time : ℕ
  is_given : given a b ≡ Some time
  is_timed : max 1 time ≡ seconds

length-filter_map : {X Y : Type 0} (f : X → Option Y) (xs : List X) → length (filter_map f xs) ≡ count_by (λ x. is_some (f x)) xs
length-filter_map f [] = refl
length-filter_map {X} {Y} f (x ∷ xs) = go (f x) (length-filter_map f xs) ∙ sym (sum_by-cons (λ x. cond (is_some (f x)) 1 0) x xs) where
  go : (o : Option Y) → length (filter_map f xs) ≡ count_by (λ x. is_some (f x)) xs → length (cons_option o (filter_map f xs)) ≡ cond (is_some o) 1 0 + count_by (λ x. is_some (f x)) xs
  go None rest = omega arith
  go (Some y) rest = omega arith

sum_by_same : {X : Type 0} (f g : X → ℕ) (xs : List X) → ((x : X) → f x ≡ g x) → sum_by f xs ≡ sum_by g xs
sum_by_same f g [] same = refl
sum_by_same f g (x ∷ xs) same =
    let head : f x ≡ g x = same x in
    let rest : sum_by f xs ≡ sum_by g xs = sum_by_same f g xs same in
    sum_by-cons f x xs ∙ ap (λ n. n + sum_by f xs) head ∙ ap (λ n. g x + n) rest ∙ sym (sum_by-cons g x xs)

as_many : (from to : List ℕ) (o : Option ℕ) → is_some (option_map (timed_change from to) o) ≡ is_some (option_map (max 1) o)
as_many from to None = refl
as_many from to (Some n) = refl

module _ (stops : List Stop) (strict : InStopOrder stops) (transfers : List Transfer) (default : ℕ) where
  abbrev given : Stop → Stop → Option ℕ
  given = given_seconds transfers default

  abbrev whole : List Change
  whole = changes_among given stops stops

  -- what the definition says of two stops
  said_of : (a b : Stop) → Contains stops a → Contains stops b → change_of stops transfers default a.id b.id ≡ change_from_to transfers default a b
  said_of a b ha hb =
      ap (option_and_then (λ (x : Stop). option_and_then (change_from_to transfers default x) (stop_of stops b.id))) (stop_there stops strict a ha)
      ∙ ap (option_and_then (change_from_to transfers default a)) (stop_there stops strict b hb)

  is_said : (c : Change) → Contains whole c → change_of stops transfers default c.from c.to ≡ Some c.seconds
  is_said c h =
      let from = StandsIn-flat_map (λ (from : Stop). changes_to (given from) from stops) stops c h in
      let to = IsMade-filter_map (λ (to : Stop). option_map (timed_change from.of.id to.id) (given from.of to)) stops c from.within in
      let timed = is_timed (given from.of) from.of to.from c to.is in
      subst (λ (c : Change). change_of stops transfers default c.from c.to ≡ Some c.seconds) timed.is
      (said_of from.of to.from from.stands to.stands ∙ ap (option_map (max 1)) timed.is_given)

  some_max : (o : Option ℕ) (n : ℕ) → option_map (max 1) o ≡ Some n → (m : ℕ) × (o ≡ Some m) × (max 1 m ≡ n)
  some_max None n e = absurd (cc)
  some_max (Some m) n e = (m, refl, cc)

  given_there : (from to : List ℕ) (seconds : ℕ) → change_of stops transfers default from to ≡ Some seconds → IsGiven stops given from to seconds
  given_there from to seconds e = first (stop_of stops from) refl e where
    second : (a : Stop) → stop_of stops from ≡ Some a → (o : Option Stop) → stop_of stops to ≡ o → option_and_then (change_from_to transfers default a) o ≡ Some seconds → IsGiven stops given from to seconds
    second a at None f g = absurd (cc)
    second a at (Some b) f g =
        let found = IsKept-find (λ (s : Stop). is_same_id s.id from) stops a at in
        let other = IsKept-find (λ (s : Stop). is_same_id s.id to) stops b f in
        let (m, is, time) = some_max (given a b) seconds g in
        record {
          a = a;
          b = b;
          a_stands = found.stands;
          b_stands = other.stands;
          a_is = (bytes_eq-Decides a.id from).0 found.passes;
          b_is = (bytes_eq-Decides b.id to).0 other.passes;
          time = m;
          is_given = is;
          is_timed = time;
        }

    first : (o : Option Stop) → stop_of stops from ≡ o → option_and_then (λ (x : Stop). option_and_then (change_from_to transfers default x) (stop_of stops to)) o ≡ Some seconds → IsGiven stops given from to seconds
    first None f g = absurd (cc)
    first (Some a) f g = second a f (stop_of stops to) refl g

  stands_there : (c : Change) → change_of stops transfers default c.from c.to ≡ Some c.seconds → Contains whole c
  stands_there c e =
      let g = given_there c.from c.to c.seconds e in
      let is : c ≡ timed_change g.a.id g.b.id g.time = change_is c g.a.id g.b.id g.time (sym g.a_is) (sym g.b_is) (sym g.is_timed) in
      let made : option_map (timed_change g.a.id g.b.id) (given g.a g.b) ≡ Some c = ap (option_map (timed_change g.a.id g.b.id)) g.is_given ∙ ap Some (sym is) in
      Contains-flat_map (λ (from : Stop). changes_to (given from) from stops) stops g.a c g.a_stands
      (Contains-filter_map (λ (to : Stop). option_map (timed_change g.a.id to.id) (given g.a to)) stops g.b c g.b_stands made)

  first_less : (o p : Ordering) → o ≡ Less → ordering_then o p ≡ Less
  first_less o p e = rw e refl

  in_order : InChangeOrder whole
  in_order = AllPairs-flat_map (λ (c d : Change). change_cmp c d ≡ Less) (λ (x y : Stop). id_cmp x.id y.id ≡ Less) (λ (from : Stop). changes_to (given from) from stops) stops
      (λ x _. InChangeOrder-changes_to (given x) x stops strict)
      (λ x z c d less hc hd.
      let made_c = IsMade-filter_map (λ (to : Stop). option_map (timed_change x.id to.id) (given x to)) stops c hc in
      let made_d = IsMade-filter_map (λ (to : Stop). option_map (timed_change z.id to.id) (given z to)) stops d hd in
      let left : x.id ≡ c.from = ap (λ (c : Change). c.from) (is_timed (given x) x made_c.from c made_c.is).is in
      let right : z.id ≡ d.from = ap (λ (c : Change). c.from) (is_timed (given z) z made_d.from d made_d.is).is in
      first_less (id_cmp c.from d.from) (id_cmp c.to d.to) (subst (λ v. id_cmp c.from v ≡ Less) right (subst (λ v. id_cmp v z.id ≡ Less) left less)))
      strict

  -- the changes stop by stop are the changes
  pub AreChangesOf-whole : AreChangesOf stops transfers default whole
  AreChangesOf-whole = record { all = λ c. (is_said c, stands_there c); in_order = in_order }

  -- how many they are
  pub length-whole : length whole ≡ count_of_changes stops transfers default
  length-whole =
      length-flat_map (λ (from : Stop). changes_to (given from) from stops) stops
      ∙ sum_by_same (λ (from : Stop). length (changes_to (given from) from stops)) (λ (from : Stop). count_by (λ (to : Stop). is_some (change_from_to transfers default from to)) stops) stops
      (λ from.
      length-filter_map (λ (to : Stop). option_map (timed_change from.id to.id) (given from to)) stops
      ∙ sum_by_same (λ (to : Stop). cond (is_some (option_map (timed_change from.id to.id) (given from to))) 1 0) (λ (to : Stop). cond (is_some (change_from_to transfers default from to)) 1 0) stops
      (λ to. ap (λ b. cond b 1 0) (as_many from.id to.id (given from to))))

both_true : (a b : Bool) → (a && b) ≡ true → (a ≡ true) × (b ≡ true)
both_true true b e = (refl, e)
both_true false b e = absurd (let f : false ≡ true = e in cc)

tests_true : (a b : Bool) → a ≡ true → b ≡ true → (a && b) ≡ true
tests_true a b e f = rw (e, f) refl

-- what the changes have between two stops is the change between them
pub between_is : (stops : List Stop) (transfers : List Transfer) (default : ℕ) (changes : List Change) → InStopOrder stops → AreChangesOf stops transfers default changes → (from to : List ℕ)
    → change_between changes from to ≡ change_of stops transfers default from to
between_is stops transfers default changes strict are from to = go (find sought changes) refl where
  sought : Change → Bool
  sought c = is_same_id c.from from && is_same_id c.to to

  none : find sought changes ≡ None → (o : Option ℕ) → change_of stops transfers default from to ≡ o → None ≡ o
  none e None f = refl
  none e (Some seconds) f =
      let g = given_there stops strict transfers default from to seconds f in
      let c : Change = timed_change from to g.time in
      let stands : Contains changes c = (are.all c).1 (f ∙ ap Some (sym g.is_timed)) in
      absurd (find_none sought changes c e stands (tests_true (is_same_id from from) (is_same_id to to) ((bytes_eq-Decides from from).1 refl) ((bytes_eq-Decides to to).1 refl)))

  go : (o : Option Change) → find sought changes ≡ o → option_map (λ (c : Change). c.seconds) (find sought changes) ≡ change_of stops transfers default from to
  go (Some c) e =
      let found = IsKept-find sought changes c e in
      let both = both_true (is_same_id c.from from) (is_same_id c.to to) found.passes in
      let from_is : c.from ≡ from = (bytes_eq-Decides c.from from).0 both.0 in
      let to_is : c.to ≡ to = (bytes_eq-Decides c.to to).0 both.1 in
      let said : change_of stops transfers default c.from c.to ≡ Some c.seconds = (are.all c).0 found.stands in
      ap (option_map (λ (c : Change). c.seconds)) e
      ∙ sym (subst (λ v. change_of stops transfers default v to ≡ Some c.seconds) from_is (subst (λ v. change_of stops transfers default c.from v ≡ Some c.seconds) to_is said))
  go None e = ap (option_map (λ (c : Change). c.seconds)) e ∙ none e (change_of stops transfers default from to) refl

-- the list is one
pub one_list_of_changes : OneListOfChanges
one_list_of_changes stops transfers default a b p q =
    strict_lists_are_one change_cmp change_cmp_total a b p.in_order q.in_order
    (λ c h. (q.all c).1 ((p.all c).0 h)) (λ c h. (p.all c).1 ((q.all c).0 h))

whole_is : (stops slice : List Stop) (transfers rows : List Transfer) (default : ℕ) → slice ≡ stops → rows ≡ transfers → changes_among (given_seconds rows default) slice slice ≡ changes_among (given_seconds transfers default) stops stops
whole_is stops slice transfers rows default e f =
    ap (λ (v : List Stop). changes_among (given_seconds rows default) v v) e ∙ ap (λ (v : List Transfer). changes_among (given_seconds v default) stops stops) f

-- what is made of slices of the stops and the rows
pub made_are : (stops slice : List Stop) (transfers rows : List Transfer) (default : ℕ) (list changes : List Change) → slice ≡ stops → InStopOrder slice → rows ≡ transfers → list ≡ changes_among (given_seconds rows default) slice slice
    → changes ≡ list → AreChangesOf stops transfers default changes
made_are stops slice transfers rows default list changes e strict f made same =
    subst (λ (v : List Change). AreChangesOf stops transfers default v) (sym (same ∙ made ∙ whole_is stops slice transfers rows default e f))
    (AreChangesOf-whole stops (subst InStopOrder e strict) transfers default)

pub made_count : (stops slice : List Stop) (transfers rows : List Transfer) (default : ℕ) → slice ≡ stops → InStopOrder slice → rows ≡ transfers
    → length (changes_among (given_seconds rows default) slice slice) ≡ count_of_changes stops transfers default
made_count stops slice transfers rows default e strict f =
    ap length (whole_is stops slice transfers rows default e f) ∙ length-whole stops (subst InStopOrder e strict) transfers default
