-- In visits that are sorted by trip, those of one trip are side by side.
use Rattle.std.proofs.Common.{◌≡◌, ◌≢◌, ◌∙◌, ℕ, ◌+◌, ◌-◌, ◌<◌, ◌≤◌, List, true, false, ap, arith, get_or, length, option_map, refl, sym, unwrap_or}
use Rattle.std.proofs.lemmas.Bool.{false≢true}
use Rattle.std.proofs.lemmas.Cmp.{nat_list_cmp_total, upto}
use Rattle.std.proofs.lemmas.List.Sorted.{ranks_by, sorted_far}
use Rattle.std.proofs.lemmas.Option.{slice_get-get_or, slice_get_past}
use native.Mathlib.Decide.{dec_lt}
use Rattle.std.specs.Cmp.Lexicographic.{texts_ties}
use Rattle.std.specs.List.{between}
use Rattle.std.specs.List.Sorted.{IsPartitionedBy, IsSorted}
use Rattle.std.specs.Ordering.{is_eq, is_gt, is_le, is_lt, on, ordering_reverse}
use Rattle.std.specs.declared.cmp.Ordering.{Ordering}
use Rattle.std.specs.declared.cmp.Ordering.TheVariants.{Less, Equal, Greater}
use Rattle.lc_model.specs.Change.{is_same_id}
use Rattle.lc_model.specs.Text.{id_cmp}
use Rattle.lc_model.proofs.RangesLemmas.{filter_is_between}
use Rattle.lc_model.proofs.SearchLemmas.{id_tie, same_id}
use Rattle.gtfs_tables.specs.Trips.Timing.{visits_of}
use Rattle.gtfs_tables.specs.Trips.TripPlaces.{BeginAt, EndAt, is_visit_of}
use Rattle.gtfs_tables.specs.declared.trips.visits.Visit.{Visit}

turned : (o : Ordering) → is_lt o ≡ false → is_gt (ordering_reverse o) ≡ false
turned Less h = absurd (false≢true (sym h))
turned Equal h = refl
turned Greater h = refl

at_most : (x y : List ℕ) → is_lt (id_cmp y x) ≡ false → is_gt (id_cmp x y) ≡ false
at_most x y h = ap is_gt (nat_list_cmp_total.antisymm x y) ∙ turned (id_cmp y x) h

both_ways : (o : Ordering) → is_gt o ≡ false → is_gt (ordering_reverse o) ≡ false → o ≡ Equal
both_ways Less h k = absurd (false≢true (sym k))
both_ways Equal h k = refl
both_ways Greater h k = absurd (false≢true (sym h))

-- of two ids each is at most the other
squeezed : (x y : List ℕ) → is_gt (id_cmp x y) ≡ false → is_gt (id_cmp y x) ≡ false → x ≡ y
squeezed x y h k = id_tie x y (both_ways (id_cmp x y) h (sym (ap is_gt (nat_list_cmp_total.antisymm y x)) ∙ k))

less_if : (o : Ordering) → is_gt o ≡ false → (o ≡ Equal → is_lt o ≡ true) → is_lt o ≡ true
less_if Less h k = refl
less_if Equal h k = k refl
less_if Greater h k = absurd (false≢true (sym h))

more_if : (o : Ordering) → (is_gt o ≡ false → is_le o ≡ false) → is_le o ≡ false
more_if Less k = absurd (false≢true (sym (k refl)))
more_if Equal k = absurd (false≢true (sym (k refl)))
more_if Greater k = refl

less_is : (o : Ordering) → is_lt o ≡ true → is_le o ≡ true
less_is Less h = refl
less_is Equal h = refl
less_is Greater h = absurd (false≢true h)

not_more : (o : Ordering) → is_lt o ≡ true → is_gt o ≡ false
not_more Less h = refl
not_more Equal h = refl
not_more Greater h = absurd (false≢true h)

tie_is : (o : Ordering) → is_eq o ≡ true → o ≡ Equal
tie_is Less h = absurd (false≢true h)
tie_is Equal h = refl
tie_is Greater h = absurd (false≢true h)

module _ (visits : List Visit) (trip : List ℕ) where
  -- the trip of the visit at a place
  abbrev at : ℕ → Visit → List ℕ
  at place d = (get_or visits place d).trip

  seen_is : (place : ℕ) (d : Visit) → place < length visits → is_visit_of visits trip place ≡ is_same_id (at place d) trip
  seen_is place d inside = ap (λ o. unwrap_or (option_map (λ (v : Visit). is_same_id v.trip trip) o) false) (slice_get-get_or visits place d inside)

  seen : (place : ℕ) (d : Visit) → place < length visits → is_visit_of visits trip place ≡ true → at place d ≡ trip
  seen place d inside h =
      id_tie (at place d) trip (tie_is (id_cmp (at place d) trip) (sym (texts_ties (at place d) trip) ∙ sym (seen_is place d inside) ∙ h))

  unseen : (place : ℕ) (d : Visit) → place < length visits → is_visit_of visits trip place ≡ false → at place d ≢ trip
  unseen place d inside h same =
      let tie : is_same_id (at place d) trip ≡ true = texts_ties (at place d) trip ∙ ap is_eq (same_id (at place d) trip same) in
      false≢true (sym h ∙ seen_is place d inside ∙ tie)

  seen_within : (place : ℕ) → is_visit_of visits trip place ≡ true → place < length visits
  seen_within place h =
      elim (dec_lt place (length visits)) [
        | yes inside ↦ inside
        | no past ↦
            let none : is_visit_of visits trip place ≡ false =
            ap (λ o. unwrap_or (option_map (λ (v : Visit). is_same_id v.trip trip) o) false) (slice_get_past visits place (omega arith)) in
            absurd (false≢true (sym none ∙ h))
      ]

  module _ (up : IsSorted (on (λ (v : Visit). v.trip) id_cmp) visits) where
    rises : (i j : ℕ) (d : Visit) → i ≤ j → j < length visits → is_lt (id_cmp (at j d) (at i d)) ≡ false
    rises i j d low inside = sorted_far (λ (x y : Visit). is_lt (id_cmp x.trip y.trip)) (ranks_by nat_list_cmp_total (λ (v : Visit). v.trip)) visits up i j d low inside

    rises_to : (i j : ℕ) (d : Visit) → i ≤ j → j < length visits → is_gt (id_cmp (at i d) (at j d)) ≡ false
    rises_to i j d low inside = at_most (at i d) (at j d) (rises i j d low inside)

    -- the visits of lesser trips are before all others
    pub parted : IsPartitionedBy (λ (v : Visit). is_lt (id_cmp v.trip trip)) visits
    parted i j d low inside less =
        let to : is_gt (id_cmp (at j d) trip) ≡ false = not_more (id_cmp (at j d) trip) less in
        let next : is_gt (id_cmp (at i d) (at j d)) ≡ false = rises_to i j d low inside in
        less_if (id_cmp (at i d) trip) (upto nat_list_cmp_total (at i d) (at j d) trip next to) (λ tie.
        let above : is_gt (id_cmp trip (at j d)) ≡ false = ap (λ t. is_gt (id_cmp t (at j d))) (sym (id_tie (at i d) trip tie)) ∙ next in
        let equal : is_lt (id_cmp (at j d) trip) ≡ false = ap is_lt (same_id (at j d) trip (squeezed (at j d) trip to above)) in
        absurd (false≢true (sym equal ∙ less)))

    -- what comes before the first visit of the trip is less
    before_first : (near m : ℕ) (d : Visit) → near < length visits → at near d ≡ trip → at (near - 1) d ≢ trip → m < near → is_lt (id_cmp (at m d) trip) ≡ true
    before_first near m d inside here other high =
        let to_here : (i : ℕ) → i ≤ near → is_gt (id_cmp (at i d) trip) ≡ false = λ i low. ap (λ t. is_gt (id_cmp (at i d) t)) (sym here) ∙ rises_to i near d low inside in
        less_if (id_cmp (at m d) trip) (to_here m (omega arith)) (λ tie.
        let same : at m d ≡ trip = id_tie (at m d) trip tie in
        let above : is_gt (id_cmp trip (at (near - 1) d)) ≡ false = ap (λ t. is_gt (id_cmp t (at (near - 1) d))) (sym same) ∙ rises_to m (near - 1) d (omega arith) (omega arith) in
        absurd (other (squeezed (at (near - 1) d) trip (to_here (near - 1) (omega arith)) above)))

    -- a visit of the trip after one that is not begins its visits
    pub begins : (near : ℕ) → is_visit_of visits trip near ≡ true → ((before : ℕ) → before + 1 ≡ near → is_visit_of visits trip before ≡ false) → BeginAt visits trip near
    begins near here first =
        let inside : near < length visits = seen_within near here in
        record {
          within = omega arith;
          less = (
            (λ m d low high.
                let one : (near - 1) + 1 ≡ near = omega arith in
                before_first near m d inside (seen near d inside here) (unseen (near - 1) d (omega arith) (first (near - 1) one)) high),
            (λ m d low high. ap (λ t. is_lt (id_cmp (at m d) t)) (sym (seen near d inside here)) ∙ rises near m d low high),
          );
        }

    past_end : (first end m : ℕ) (d : Visit) → BeginAt visits trip first → EndAt visits trip first end → end ≤ m → m < length visits → is_gt (id_cmp (at m d) trip) ≡ false → ⊥
    past_end first end m d begun ended low high at_most_trip =
        let inside : end < length visits = omega arith in
        let from : is_gt (id_cmp trip (at end d)) ≡ false = at_most trip (at end d) (begun.less.1 end d ended.low inside) in
        let to : is_gt (id_cmp (at end d) trip) ≡ false = upto nat_list_cmp_total (at end d) (at m d) trip (rises_to end m d low high) at_most_trip in
        unseen end d inside (ended.last inside) (squeezed (at end d) trip to from)

    up_to_end : (first end m : ℕ) (d : Visit) → BeginAt visits trip first → EndAt visits trip first end → m < end → is_le (id_cmp (at m d) trip) ≡ true
    up_to_end first end m d begun ended high =
        let inside : end ≤ length visits = ended.high in
        elim (dec_lt m first) [
          | yes below ↦ less_is (id_cmp (at m d) trip) (begun.less.0 m d (omega arith) below)
          | no above ↦ ap is_le (same_id (at m d) trip (seen m d (omega arith) (ended.within m (omega arith) high)))
        ]

    -- the visits of the trip are those between their first place and their end
    pub stand : (first end : ℕ) → BeginAt visits trip first → EndAt visits trip first end → visits_of visits trip ≡ between first end visits
    stand first end begun ended =
        filter_is_between (λ (v : Visit). v.trip) visits trip first end ended.low (record {
          within_lo = begun.within;
          within_hi = ended.high;
          less = begun.less;
          no_more = (
            (λ m d low high. up_to_end first end m d begun ended high),
            (λ m d low high. more_if (id_cmp (at m d) trip) (λ h. absurd (past_end first end m d begun ended low high h))),
          );
        })
