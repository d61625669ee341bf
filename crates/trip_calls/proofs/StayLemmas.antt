-- The stays of a trip at the stops of its rows: none is before the one before it, and all are in a service day.
use Rattle.std.proofs.Common.{◌≡◌, ◌∙◌, ℕ, ◌-◌, ◌*◌, ◌/◌, ◌<◌, ◌≤◌, ◌||◌, Bool, true, false, cond, List, Option, Some, None, ap, ap₂, arith, get_or, inl, inr, is_some, length, refl, subst, suc, sym, unwrap_or, zero}
use Rattle.std.specs.Prelude.{option_and_then}
use Rattle.std.specs.List.{All, slice_get}
use Rattle.std.specs.Option.{option_map_or, option_or}
use Rattle.std.proofs.Math.Nat.{div-le_of_le-mul, div-mul-le_self, mul-le-mul_left}
use Rattle.std.proofs.lemmas.Bool.{cases_lt, false≢true}
use Rattle.std.proofs.lemmas.Nat.{le-div}
use Rattle.std.proofs.lemmas.Option.{get_or_from_slice_get, slice_get_within}
use Rattle.gtfs_tables.specs.Fields.Times.{IsInDay}
use Rattle.gtfs_tables.specs.Trips.Timely.{AreTimelyRows, NoneFalls, arrival_of, departure_of, is_timed}
use Rattle.gtfs_tables.specs.declared.trips.stop_times.StopTime.{StopTime}
use Rattle.trip_calls.specs.BlankTimes.{arrival_at, arrives_at, blank_time, departs_at, departure_at, is_timed_at, time_between, timed_after, timed_before}
use Rattle.trip_calls.proofs.BlankLemmas.{after_is, lie_between}

none_not_some : {A : Type 0} (x : A) → (◌≡◌ {A = Option A} None (Some x)) → ⊥
none_not_some x e = cc

-- the times that a row has
record BothTimes (row : StopTime) : Type 0 where
  pub arrival : ℕ
  pub departure : ℕ
  pub arrival_is : arrival_of row ≡ Some arrival
  pub departure_is : departure_of row ≡ Some departure

both_times : (row : StopTime) (a d : Option ℕ) → row.arr ≡ a → row.dep ≡ d → is_timed row ≡ true → BothTimes row
both_times row (Some x) (Some y) e f h = record { arrival = x; departure = y; arrival_is = ap (λ o. option_or o row.dep) e; departure_is = ap (λ o. option_or o row.arr) f }
both_times row (Some x) None e f h = record { arrival = x; departure = x; arrival_is = ap (λ o. option_or o row.dep) e; departure_is = ap (λ o. option_or o row.arr) f ∙ e }
both_times row None (Some y) e f h = record { arrival = y; departure = y; arrival_is = ap (λ o. option_or o row.dep) e ∙ f; departure_is = ap (λ o. option_or o row.arr) f }
both_times row None None e f h = absurd (false≢true (sym (ap₂ (λ (a d : Option ℕ). is_some a || is_some d) e f) ∙ h))

-- the row with a time at a place
record TimedRow (rows : List StopTime) (place : ℕ) : Type 0 where
  pub row : StopTime
  pub at : slice_get rows place ≡ Some row
  pub timed : is_timed row ≡ true
  pub arrival_is : arrival_of row ≡ Some (arrival_at rows place)
  pub departure_is : departure_of row ≡ Some (departure_at rows place)

timed_row : (rows : List StopTime) (place : ℕ) → is_timed_at rows place ≡ true → TimedRow rows place
timed_row rows place h = by_row (slice_get rows place) refl h
  where
    by_row : (o : Option StopTime) → slice_get rows place ≡ o → option_map_or is_timed o false ≡ true → TimedRow rows place
    by_row None e t = absurd (false≢true t)
    by_row (Some row) e t =
        let both = both_times row row.arr row.dep refl refl t in
        let arrival : arrival_at rows place ≡ both.arrival = ap (λ o. unwrap_or (option_and_then arrival_of o) 0) e ∙ ap (λ o. unwrap_or o 0) both.arrival_is in
        let departure : departure_at rows place ≡ both.departure = ap (λ o. unwrap_or (option_and_then departure_of o) 0) e ∙ ap (λ o. unwrap_or o 0) both.departure_is in
        record { row = row; at = e; timed = t; arrival_is = both.arrival_is ∙ ap Some (sym arrival); departure_is = both.departure_is ∙ ap Some (sym departure) }

day_of : (x y : Option ℕ) (a : ℕ) → IsInDay x → IsInDay y → option_or x y ≡ Some a → a < 360_000
day_of (Some x) y a p q e = p a e
day_of None y a p q e = q a e

at_row : (P : StopTime → Type 0) (rows : List StopTime) (place : ℕ) → All P rows → (t : TimedRow rows place) → P t.row
at_row P rows place all t = subst P (get_or_from_slice_get rows place t.row t.row t.at) (all place t.row (slice_get_within rows place t.row t.at))

div_up : (m n k : ℕ) → 0 < k → m ≤ n → m / k ≤ n / k
div_up m n k positive le = let low : m / k * k ≤ n = omega (arith, div-mul-le_self m k, le) in le-div (m / k) n k positive low

pub time_from : (departs before place after arrives : ℕ) → departs ≤ time_between departs before place after arrives
time_from departs before place after arrives = omega arith

pub time_upto : (departs before place after arrives : ℕ) → departs ≤ arrives → before < after → place ≤ after → time_between departs before place after arrives ≤ arrives
time_upto departs before place after arrives in_order lt le =
    let n = after - before in
    let x = arrives - departs in
    let steps : place - before ≤ n = omega (arith, le) in
    let most : x * (place - before) ≤ x * n = mul-le-mul_left x steps in
    let turned : x * (place - before) ≤ n * x = omega (arith, most) in
    let part : x * (place - before) / n ≤ x = div-le_of_le-mul n turned in
    omega (arith, part, in_order)

time_up : (departs before place next after arrives : ℕ) → before < after → place ≤ next → time_between departs before place after arrives ≤ time_between departs before next after arrives
time_up departs before place next after arrives lt le =
    let n = after - before in
    let x = arrives - departs in
    let steps : place - before ≤ next - before = omega (arith, le) in
    let more : x * (place - before) ≤ x * (next - before) = mul-le-mul_left x steps in
    let positive : 0 < n = omega (arith, lt) in
    let part : x * (place - before) / n ≤ x * (next - before) / n = div_up _ _ n positive more in
    omega (arith, part)

pub arrives_timed : (rows : List StopTime) (place : ℕ) → is_timed_at rows place ≡ true → arrives_at rows place ≡ arrival_at rows place
arrives_timed rows place h = ap (λ b. cond b (arrival_at rows place) (blank_time rows place)) h

pub departs_timed : (rows : List StopTime) (place : ℕ) → is_timed_at rows place ≡ true → departs_at rows place ≡ departure_at rows place
departs_timed rows place h = ap (λ b. cond b (departure_at rows place) (blank_time rows place)) h

pub arrives_blank : (rows : List StopTime) (place : ℕ) → is_timed_at rows place ≡ false → arrives_at rows place ≡ blank_time rows place
arrives_blank rows place h = ap (λ b. cond b (arrival_at rows place) (blank_time rows place)) h

pub departs_blank : (rows : List StopTime) (place : ℕ) → is_timed_at rows place ≡ false → departs_at rows place ≡ blank_time rows place
departs_blank rows place h = ap (λ b. cond b (departure_at rows place) (blank_time rows place)) h

module _ (rows : List StopTime) (timely : AreTimelyRows rows) where
  timed_stop : (k : ℕ) → is_timed_at rows k ≡ true → arrival_at rows k ≤ departure_at rows k
  timed_stop k h =
      let t = timed_row rows k h in
      at_row (λ t. NoneFalls (arrival_of t) (departure_of t)) rows k timely.at_a_stop t (arrival_at rows k) (departure_at rows k) t.arrival_is t.departure_is

  pub timed_along : (i k : ℕ) → i < k → is_timed_at rows i ≡ true → is_timed_at rows k ≡ true → departure_at rows i ≤ arrival_at rows k
  timed_along i k lt hi hk =
      let t = timed_row rows i hi in
      let u = timed_row rows k hk in
      let within : k < length rows = slice_get_within rows k u.row u.at in
      let pair = timely.along i k t.row lt within in
      let left : get_or rows i t.row ≡ t.row = get_or_from_slice_get rows i t.row t.row t.at in
      let right : get_or rows k t.row ≡ u.row = get_or_from_slice_get rows k u.row t.row u.at in
      subst (λ (x : StopTime). NoneFalls (departure_of t.row) (arrival_of x)) right (subst (λ (x : StopTime). NoneFalls (departure_of x) (arrival_of (get_or rows k t.row))) left pair)
      (departure_at rows i) (arrival_at rows k) t.departure_is u.arrival_is

  timed_in_day : (k : ℕ) → is_timed_at rows k ≡ true → (arrival_at rows k < 360_000) × (departure_at rows k < 360_000)
  timed_in_day k h =
      let t = timed_row rows k h in
      let a = at_row (λ t. IsInDay t.arr) rows k timely.arrivals_in_day t in
      let d = at_row (λ t. IsInDay t.dep) rows k timely.departures_in_day t in
      (day_of t.row.arr t.row.dep (arrival_at rows k) a d t.arrival_is, day_of t.row.dep t.row.arr (departure_at rows k) d a t.departure_is)

  -- a blank row's time is between those of the nearest rows
  blank_upto : (k : ℕ) → k < length rows → is_timed_at rows k ≡ false → blank_time rows k ≤ arrival_at rows (timed_after rows k)
  blank_upto k lt none =
      let b = lie_between rows k timely lt none in
      let i = timed_before rows k in
      let a = timed_after rows k in
      let far : i < a = omega (arith, b.is_before, b.is_after) in
      time_upto (departure_at rows i) i k a (arrival_at rows a) (timed_along i a far b.before_timed b.after_timed) far (omega (arith, b.is_after))

  pub at_stop : (k : ℕ) → arrives_at rows k ≤ departs_at rows k
  at_stop k = by_test (is_timed_at rows k) refl
    where
      by_test : (b : Bool) → is_timed_at rows k ≡ b → arrives_at rows k ≤ departs_at rows k
      by_test true e = let le = timed_stop k e in omega (arith, le, arrives_timed rows k e, departs_timed rows k e)
      by_test false e = omega (arith, arrives_blank rows k e, departs_blank rows k e)

  pub in_day : (k : ℕ) → k < length rows → (arrives_at rows k < 360_000) × (departs_at rows k < 360_000)
  in_day k lt = by_test (is_timed_at rows k) refl
    where
      by_test : (b : Bool) → is_timed_at rows k ≡ b → (arrives_at rows k < 360_000) × (departs_at rows k < 360_000)
      by_test true e =
          let d = timed_in_day k e in
          let a : arrival_at rows k < 360_000 = d.0 in
          let z : departure_at rows k < 360_000 = d.1 in
          (omega (arith, a, arrives_timed rows k e), omega (arith, z, departs_timed rows k e))
      by_test false e =
          let b = lie_between rows k timely lt e in
          let upto = blank_upto k lt e in
          let a : arrival_at rows (timed_after rows k) < 360_000 = (timed_in_day (timed_after rows k) b.after_timed).0 in
          (omega (arith, a, upto, arrives_blank rows k e), omega (arith, a, upto, departs_blank rows k e))

  next : (k : ℕ) → suc k < length rows → departs_at rows k ≤ arrives_at rows (suc k)
  next k lt = by_tests (is_timed_at rows k) (is_timed_at rows (suc k)) refl refl
    where
      here : k < length rows
      here = omega (arith, lt)

      by_tests : (b c : Bool) → is_timed_at rows k ≡ b → is_timed_at rows (suc k) ≡ c → departs_at rows k ≤ arrives_at rows (suc k)
      by_tests true true e f = let le = timed_along k (suc k) (omega arith) e f in omega (arith, le, departs_timed rows k e, arrives_timed rows (suc k) f)
      by_tests true false e f =
          let before : timed_before rows (suc k) ≡ k = ap (λ b. cond b k (timed_before rows k)) e in
          let from = time_from (departure_at rows (timed_before rows (suc k))) (timed_before rows (suc k)) (suc k) (timed_after rows (suc k)) (arrival_at rows (timed_after rows (suc k))) in
          let same : departure_at rows (timed_before rows (suc k)) ≡ departure_at rows k = ap (departure_at rows) before in
          omega (arith, from, same, departs_timed rows k e, arrives_blank rows (suc k) f)
      by_tests false true e f =
          let after : timed_after rows k ≡ suc k = after_is rows k (suc k) (omega arith) f (λ j low high. absurd (omega (arith, low, high))) in
          let upto = blank_upto k here e in
          let same : arrival_at rows (timed_after rows k) ≡ arrival_at rows (suc k) = ap (arrival_at rows) after in
          omega (arith, upto, same, departs_blank rows k e, arrives_timed rows (suc k) f)
      by_tests false false e f =
          let b = lie_between rows (suc k) timely lt f in
          let i = timed_before rows (suc k) in
          let a = timed_after rows (suc k) in
          let before : timed_before rows (suc k) ≡ timed_before rows k = ap (λ b. cond b k (timed_before rows k)) e in
          let after : timed_after rows k ≡ a = after_is rows k a (omega (arith, b.is_after)) b.after_timed (λ j low high. b.blank j (omega (arith, low, b.is_before)) high) in
          let up : time_between (departure_at rows i) i k a (arrival_at rows a) ≤ time_between (departure_at rows i) i (suc k) a (arrival_at rows a) = time_up (departure_at rows i) i k (suc k) a (arrival_at rows a) (omega (arith, b.is_before, b.is_after)) (omega arith) in
          let same : blank_time rows k ≡ time_between (departure_at rows i) i k a (arrival_at rows a) =
          ap₂ (λ (i a : ℕ). time_between (departure_at rows i) i k a (arrival_at rows a)) (sym before) after in
          omega (arith, up, same, departs_blank rows k e, arrives_blank rows (suc k) f)

  pub along : (i k : ℕ) → i < k → k < length rows → departs_at rows i ≤ arrives_at rows k
  along i zero lt within = absurd (omega (arith, lt))
  along i (suc k) lt within = elim (cases_lt i k) [
    | inl less ↦ let le = along i k less (omega (arith, within)) in let stop = at_stop k in let to = next k within in omega (arith, le, stop, to)
    | inr ge ↦ let same : i ≡ k = omega (arith, lt, ge) in subst (λ (v : ℕ). departs_at rows v ≤ arrives_at rows (suc k)) (sym same) (next k within)
  ]
