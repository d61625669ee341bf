-- Legs of a list that is before or after another one.
use Rattle.std.proofs.Common.{◌≡◌, ℕ, zero, suc, ◌<◌, ◌≤◌, ◌⊎◌, inl, inr, List, [], ◌∷◌, ◌++◌, length, Some, refl, ap, sym, ◌∙◌, arith}
use Rattle.std.specs.List.{All, slice_get}
use Rattle.std.specs.declared.cmp.Ordering.TheVariants.{Less}
use Rattle.std.proofs.lemmas.Bool.{cases_lt}
use Rattle.std.proofs.lemmas.List.Elements.{All-filter, All-head, All-tail, filter-append}
use Rattle.std.proofs.lemmas.List.Kept.{AllPairs-filter}
use Rattle.lc_model.specs.Connection.{InDepartureOrder, NoneArrivesEarly, departure_cmp}
use Rattle.lc_model.specs.Leg.{IsLegOf, in_time}
use Rattle.lc_model.specs.declared.connection.Connection.{Connection}
use Rattle.lc_model.specs.declared.query.Query.{Query}
use Rattle.lc_model.specs.declared.ride.Ride.{Ride}
use Rattle.convoy.proofs.PageLawsLemmas.PlacesLemmas.{all_at, pair_at}
use Rattle.lc_model.proofs.ConnectionLemmas.{departs_by}

-- a leg is one of each list in which its first and its last connection are in this order
leg_of : (list other : List Connection) (ride : Ride) (leg : IsLegOf list ride) (boards_at last_at : ℕ) → boards_at ≤ last_at → slice_get other boards_at ≡ Some leg.boards → slice_get other last_at ≡ Some leg.last → IsLegOf other ride
leg_of list other ride leg boards_at last_at in_order is_boards is_last = record {
  boards_at = boards_at;
  last_at = last_at;
  in_order = in_order;
  boards = leg.boards;
  last = leg.last;
  is_boards = is_boards;
  is_last = is_last;
  same_run = leg.same_run;
  may_board = leg.may_board;
  may_alight = leg.may_alight;
  is_ride = leg.is_ride;
}

-- a leg is one after a further connection
leg_behind : (x : Connection) (list : List Connection) (ride : Ride) → IsLegOf list ride → IsLegOf (x ∷ list) ride
leg_behind x list ride leg =
    leg_of list (x ∷ list) ride leg (suc leg.boards_at) (suc leg.last_at) (omega (arith, leg.in_order)) leg.is_boards leg.is_last

-- a leg of the rest of a list is one of the list
pub leg_of_rest : (front rest : List Connection) (ride : Ride) → IsLegOf rest ride → IsLegOf (front ++ rest) ride
leg_of_rest [] rest ride leg = leg
leg_of_rest (x ∷ front) rest ride leg = leg_behind x (front ++ rest) ride (leg_of_rest front rest ride leg)

place_in_front : {X : Type 0} (front rest : List X) (place : ℕ) (x : X) → slice_get front place ≡ Some x → slice_get (front ++ rest) place ≡ Some x
place_in_front [] rest place x stands = cc
place_in_front (y ∷ front) rest zero x stands = stands
place_in_front (y ∷ front) rest (suc place) x stands = place_in_front front rest place x stands

within_front : {X : Type 0} (front rest : List X) (place : ℕ) → place < length front → slice_get (front ++ rest) place ≡ slice_get front place
within_front [] rest place within = absurd (omega arith)
within_front (y ∷ front) rest zero within = refl
within_front (y ∷ front) rest (suc place) within = within_front front rest place (omega arith)

-- after the front is the rest
in_rest : {X : Type 0} (front rest : List X) (place : ℕ) (x : X) → length front ≤ place → slice_get (front ++ rest) place ≡ Some x → (at : ℕ) × (slice_get rest at ≡ Some x)
in_rest [] rest place x behind stands = (place, stands)
in_rest (y ∷ front) rest zero x behind stands = absurd (omega arith)
in_rest (y ∷ front) rest (suc place) x behind stands = in_rest front rest place x (omega arith) stands

-- a leg of the front of a list is one of the list
pub leg_of_front : (front rest : List Connection) (ride : Ride) → IsLegOf front ride → IsLegOf (front ++ rest) ride
leg_of_front front rest ride leg =
    leg_of front (front ++ rest) ride leg leg.boards_at leg.last_at leg.in_order
    (place_in_front front rest leg.boards_at leg.boards leg.is_boards) (place_in_front front rest leg.last_at leg.last leg.is_last)

-- a leg that departs after the first connection is a leg of those after it
leg_of_tail : (x : Connection) (list : List Connection) (ride : Ride) → IsLegOf (x ∷ list) ride → x.dep < ride.dep → IsLegOf list ride
leg_of_tail x list ride leg later = standing leg.boards_at leg.last_at leg.in_order leg.is_boards leg.is_last where
  standing : (boards_at last_at : ℕ) → boards_at ≤ last_at → slice_get (x ∷ list) boards_at ≡ Some leg.boards → slice_get (x ∷ list) last_at ≡ Some leg.last → IsLegOf list ride
  standing zero last_at in_order is_boards is_last =
      let same : x ≡ leg.boards = cc in
      let e : x.dep ≡ leg.boards.dep = ap (λ (c : Connection). c.dep) same in
      let f : ride.dep ≡ leg.boards.dep = ap (λ (r : Ride). r.dep) leg.is_ride in
      absurd (omega arith)
  standing (suc boards_at) zero in_order is_boards is_last = absurd (omega arith)
  standing (suc boards_at) (suc last_at) in_order is_boards is_last =
      leg_of (x ∷ list) list ride leg boards_at last_at (omega arith) is_boards is_last

-- a leg that departs after all of the front is a leg of the rest
pub leg_behind_front : (moment : ℕ) (front rest : List Connection) (ride : Ride) → All (λ (c : Connection). c.dep < moment) front → moment ≤ ride.dep → IsLegOf (front ++ rest) ride → IsLegOf rest ride
leg_behind_front moment [] rest ride early late leg = leg
leg_behind_front moment (x ∷ front) rest ride early late leg =
    let before : x.dep < moment = All-head (λ (c : Connection). c.dep < moment) x front early in
    leg_behind_front moment front rest ride (All-tail (λ (c : Connection). c.dep < moment) x front early) late (leg_of_tail x (front ++ rest) ride leg (omega arith))

-- a leg that arrives before all of the rest does is a leg of the front
pub leg_before_rest : (moment : ℕ) (front rest : List Connection) (ride : Ride) → All (λ (c : Connection). moment < c.arr) rest → ride.arr ≤ moment → IsLegOf (front ++ rest) ride → IsLegOf front ride
leg_before_rest moment front rest ride late early leg =
    let f : ride.arr ≡ leg.last.arr = ap (λ (r : Ride). r.arr) leg.is_ride in
    elim (cases_lt leg.last_at (length front)) [
      | inl last_within ↦
          (let boards_within : leg.boards_at < length front = omega (arith, leg.in_order) in
          leg_of (front ++ rest) front ride leg leg.boards_at leg.last_at leg.in_order
          (sym (within_front front rest leg.boards_at boards_within) ∙ leg.is_boards)
          (sym (within_front front rest leg.last_at last_within) ∙ leg.is_last))
      | inr last_behind ↦
          (let found = in_rest front rest leg.last_at leg.last last_behind leg.is_last in
          let after : moment < leg.last.arr = all_at (λ (c : Connection). moment < c.arr) rest found.0 leg.last late found.1 in
          absurd (omega arith))
    ]

-- a leg departs before it arrives
pub leg_goes_forward : (list : List Connection) (ride : Ride) → InDepartureOrder list → NoneArrivesEarly list → IsLegOf list ride → ride.dep ≤ ride.arr
leg_goes_forward list ride in_order forward leg =
    let e : ride.dep ≡ leg.boards.dep = ap (λ (r : Ride). r.dep) leg.is_ride in
    let f : ride.arr ≡ leg.last.arr = ap (λ (r : Ride). r.arr) leg.is_ride in
    let last_forward : leg.last.dep ≤ leg.last.arr = all_at (λ (c : Connection). c.dep ≤ c.arr) list leg.last_at leg.last forward leg.is_last in
    let no_earlier : leg.boards.dep ≤ leg.last.dep = along (cases_lt leg.boards_at leg.last_at) in
    omega arith where
      along : (leg.boards_at < leg.last_at) ⊎ (leg.last_at ≤ leg.boards_at) → leg.boards.dep ≤ leg.last.dep
      along (inl before) =
          departs_by leg.boards leg.last (pair_at (λ (x y : Connection). departure_cmp x y ≡ Less) list leg.boards_at leg.last_at leg.boards leg.last in_order before leg.is_boards leg.is_last)
      along (inr not_before) =
          let one_place : leg.boards_at ≡ leg.last_at = omega (arith, leg.in_order) in
          let same : leg.boards ≡ leg.last = cc in
          let g : leg.boards.dep ≡ leg.last.dep = ap (λ (c : Connection). c.dep) same in
          omega arith

-- what is in time of a list in order is in order, and none of it arrives early
pub in_time_in_order : (query : Query) (list : List Connection) → InDepartureOrder list → InDepartureOrder (in_time query list)
in_time_in_order query list in_order = AllPairs-filter (λ (x y : Connection). departure_cmp x y ≡ Less) _ list in_order

pub in_time_forward : (query : Query) (list : List Connection) → NoneArrivesEarly list → NoneArrivesEarly (in_time query list)
in_time_forward query list forward = All-filter _ (λ (c : Connection). c.dep ≤ c.arr) list forward

-- what is in time of two lists is in time of both
pub in_time_parts : (query : Query) (front rest : List Connection) → in_time query (front ++ rest) ≡ in_time query front ++ in_time query rest
in_time_parts query front rest = filter-append _ front rest
