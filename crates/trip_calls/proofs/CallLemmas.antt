-- The calls of a run: none goes back in time.
use Rattle.std.proofs.Common.{◌≡◌, ◌∙◌, ℕ, ◌+◌, ◌<◌, List, [], ◌∷◌, ◌++◌, Option, Some, None, ap, ap₂, arith, get_or, length, refl, sym, take}
use Rattle.std.specs.List.{enumerate_from}
use Rattle.std.proofs.lemmas.List.{get_or-map, length-map, take_more}
use Rattle.std.proofs.lemmas.List.FromFn.{get_or-enumerate_from, get_or-map-range_with_len, length-enumerate_from}
use Rattle.std.specs.Ordering.{nat_cmp, ordering_then}
use Rattle.std.specs.declared.cmp.Ordering.TheVariants.{Less, Equal}
use Rattle.std.proofs.lemmas.Cmp.{ranked}
use Rattle.std.proofs.lemmas.List.Kept.{AllPairs-filter}
use Rattle.std.proofs.lemmas.Slice.Eq.{bytes_eq-Decides}
use Rattle.lc_model.specs.Call.{GoesForward, InSequence}
use Rattle.lc_model.specs.Change.{is_same_id}
use Rattle.lc_model.specs.Text.{id_cmp}
use Rattle.lc_model.proofs.SearchLemmas.{same_id}
use Rattle.gtfs_tables.specs.Trips.StopTimeOrder.{InTripOrder, stop_time_cmp}
use Rattle.lc_model.specs.declared.call.Call.{Call}
use Rattle.gtfs_tables.specs.Trips.Timely.{AreTimelyRows, rows_of}
use Rattle.gtfs_tables.specs.declared.trips.stop_times.StopTime.{StopTime}
use Rattle.trip_calls.specs.BlankTimes.{arrives_at}
use Rattle.trip_calls.specs.Runs.{call_at, calls_from, calls_of}
use Rattle.trip_calls.specs.Stays.{call_from, first_arrival, stay_at, stays_upto}
use Rattle.trip_calls.specs.TripRuns.{RiseInSequence}
use Rattle.trip_calls.specs.declared.stays.Stay.{Stay}
use Rattle.lc_model.proofs.ListLemmas.{AllPairs-weaker, IsKept-filter}
use Rattle.trip_calls.proofs.StayLemmas.{along, at_stop}

pub length-calls_from : (origin first : ℕ) (rows : List StopTime) → length (calls_from origin first rows) ≡ length rows
length-calls_from origin first rows = length-map (enumerate_from 0 rows) (λ (p : ℕ × StopTime). call_at origin first rows p.0 p.1) ∙ length-enumerate_from 0 rows

-- the call at a place is that of its row
pub call_is : (origin first : ℕ) (rows : List StopTime) (k : ℕ) (d : Call) (e : StopTime) → k < length rows → get_or (calls_from origin first rows) k d ≡ call_at origin first rows k (get_or rows k e)
call_is origin first rows k d e lt =
    let of : ℕ × StopTime → Call = λ p. call_at origin first rows p.0 p.1 in
    let none : ℕ × StopTime = (0, e) in
    let inside : k < length (enumerate_from 0 rows) = omega (arith, lt, length-enumerate_from 0 rows) in
    let at = get_or-map of (enumerate_from 0 rows) k none d inside in
    let item = get_or-enumerate_from 0 rows k none lt in
    let number : 0 + k ≡ k = omega arith in
    at ∙ ap of item ∙ ap (λ v. call_at origin first rows v (get_or rows k e)) number

pub in_sequence : (origin first : ℕ) (rows : List StopTime) → RiseInSequence rows → InSequence (calls_from origin first rows)
in_sequence origin first [] rise i j d lt inside = absurd (omega (arith, inside))
in_sequence origin first (row ∷ rows) rise i j d lt inside =
    let all = row ∷ rows in
    let there : j < length all = omega (arith, inside, length-calls_from origin first all) in
    let up = rise i j row lt there in
    let x = ap (λ (c : Call). c.seq) (call_is origin first all i d row (omega (arith, lt, there))) in
    let y = ap (λ (c : Call). c.seq) (call_is origin first all j d row there) in
    omega (arith, up, x, y)

pub goes_forward : (origin first : ℕ) (rows : List StopTime) → AreTimelyRows rows → RiseInSequence rows → GoesForward (calls_from origin first rows)
goes_forward origin first [] timely rise = record {
  in_sequence = λ i j d lt inside. absurd (omega (arith, inside));
  at_a_stop = λ k d inside. absurd (omega (arith, inside));
  along = λ i j d lt inside. absurd (omega (arith, inside));
}
goes_forward origin first (row ∷ rows) timely rise = record {
  in_sequence = in_sequence origin first (row ∷ rows) rise;
  at_a_stop = λ k d inside.
      let all = row ∷ rows in
      let there : k < length all = omega (arith, inside, length-calls_from origin first all) in
      let le = at_stop all timely k in
      let is = call_is origin first all k d row there in
      let x = ap (λ (c : Call). c.arr) is in
      let y = ap (λ (c : Call). c.dep) is in
      omega (arith, le, x, y);
  along = λ i j d lt inside.
      let all = row ∷ rows in
      let there : j < length all = omega (arith, inside, length-calls_from origin first all) in
      let le = along all timely i j lt there in
      let x = ap (λ (c : Call). c.dep) (call_is origin first all i d row (omega (arith, lt, there))) in
      let y = ap (λ (c : Call). c.arr) (call_is origin first all j d row there) in
      omega (arith, le, x, y);
}

pub calls_forward : (anchor : ℕ) (start : Option ℕ) (rows : List StopTime) → AreTimelyRows rows → RiseInSequence rows → GoesForward (calls_of anchor start rows)
calls_forward anchor None rows timely rise = goes_forward anchor 0 rows timely rise
calls_forward anchor (Some start) rows timely rise = goes_forward (anchor + start) (arrives_at rows 0) rows timely rise

pub length-calls_of : (anchor : ℕ) (start : Option ℕ) (rows : List StopTime) → length (calls_of anchor start rows) ≡ length rows
length-calls_of anchor None rows = length-calls_from anchor 0 rows
length-calls_of anchor (Some start) rows = length-calls_from (anchor + start) (arrives_at rows 0) rows

-- a run with a start begins with the first arrival
pub from_first : (origin : ℕ) (rows : List StopTime) (stays : List Stay) → stays ≡ stays_upto rows (length rows) → calls_from origin (first_arrival stays) rows ≡ calls_from origin (arrives_at rows 0) rows
from_first origin [] stays are = refl
from_first origin (row ∷ rows) stays are = ap (λ (l : List Stay). calls_from origin (first_arrival l) (row ∷ rows)) are

-- the sequences of a trip's rows increase
pub rise_in_rows : (times : List StopTime) (trip : List ℕ) → InTripOrder times → RiseInSequence (rows_of times trip)
rise_in_rows times trip up =
    AllPairs-weaker (λ (x y : StopTime). stop_time_cmp x y ≡ Less) (λ (x y : StopTime). x.seq < y.seq) (rows_of times trip)
    (λ x y kx ky less.
    let of_x = (bytes_eq-Decides x.trip trip).0 (IsKept-filter (λ (t : StopTime). is_same_id t.trip trip) times x kx).passes in
    let of_y = (bytes_eq-Decides y.trip trip).0 (IsKept-filter (λ (t : StopTime). is_same_id t.trip trip) times y ky).passes in
    let one_trip : id_cmp x.trip y.trip ≡ Equal = same_id x.trip y.trip (of_x ∙ sym of_y) in
    ranked x.seq y.seq Less (sym less ∙ ap (λ o. ordering_then o (nat_cmp x.seq y.seq)) one_trip))
    (AllPairs-filter (λ (x y : StopTime). stop_time_cmp x y ≡ Less) (λ (t : StopTime). is_same_id t.trip trip) times up)

-- the call of a row more
pub one_call : (origin first : ℕ) (rows : List StopTime) (stays : List Stay) (k : ℕ) (row : StopTime) (now new : List Call) (c : Call) (e : Stay) → k < length rows → stays ≡ stays_upto rows (length rows) → row ≡ get_or rows k row
    → new ≡ now ++ c ∷ [] → c ≡ call_from origin first row (get_or stays k e) → now ≡ take k (calls_from origin first rows) → new ≡ take (k + 1) (calls_from origin first rows)
one_call origin first rows stays k row now new c e lt are is grown made so_far =
    let all = calls_from origin first rows in
    let inside : k < length all = omega (arith, lt, length-calls_from origin first rows) in
    let stay : get_or stays k e ≡ stay_at rows k = ap (λ (l : List Stay). get_or l k e) are ∙ get_or-map-range_with_len (stay_at rows) 0 (length rows) k k e lt (omega arith) in
    let same : c ≡ call_at origin first rows k (get_or rows k row) = made ∙ ap (call_from origin first row) stay ∙ ap (call_at origin first rows k) is in
    let at : get_or all k c ≡ call_at origin first rows k (get_or rows k row) = call_is origin first rows k c row lt in
    grown ∙ ap₂ (λ (a : List Call) (b : Call). a ++ b ∷ []) so_far (same ∙ sym at) ∙ sym (take_more all k c inside)
