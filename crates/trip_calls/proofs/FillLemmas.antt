-- How the stays of a trip grow, row by row.
use Rattle.std.proofs.Common.{◌≡◌, ◌∙◌, ℕ, ◌+◌, ◌-◌, ◌<◌, ◌≤◌, ◌⊎◌, Bool, true, false, cond, List, [], ◌∷◌, ◌++◌, Option, Some, None, ap, ap₂, append_assoc, arith, get_or, inl, inr, length, map, refl, subst, suc, sym, unwrap_or, zero}
use Rattle.std.specs.Prelude.{option_and_then}
use Rattle.std.specs.List.{range_with_len, slice_get}
use Rattle.std.specs.Option.{option_map_or}
use Rattle.std.proofs.lemmas.Bool.{cases_lt, false≢true}
use Rattle.std.proofs.lemmas.List.FromFn.{get_or-map-range_with_len, length-map-range_with_len, map-range_with_len_more}
use Rattle.std.proofs.lemmas.Option.{slice_get-get_or, slice_get_within}
use Rattle.gtfs_tables.specs.Trips.Timely.{AreTimelyRows, arrival_of, departure_of, is_timed}
use Rattle.gtfs_tables.specs.declared.trips.stop_times.StopTime.{StopTime}
use Rattle.trip_calls.specs.BlankTimes.{arrival_at, arrives_at, blank_time, departs_at, departure_at, is_timed_at, time_between, timed_after, timed_before}
use Rattle.trip_calls.specs.Stays.{AreInDay, AreStaysTo, NoneLater, blank_after, blank_stays, stay_at, stay_said, stays_upto}
use Rattle.trip_calls.specs.declared.stays.Stay.{Stay}
use Rattle.trip_calls.proofs.BlankLemmas.{after_is, before_is, first_timed, last_timed}
use Rattle.trip_calls.proofs.StayLemmas.{arrives_blank, arrives_timed, departs_blank, departs_timed, in_day, timed_along}

none_not_some : {A : Type 0} (x : A) → (◌≡◌ {A = Option A} None (Some x)) → ⊥
none_not_some x e = cc

some_is : {A : Type 0} (x y : A) → Some x ≡ Some y → x ≡ y
some_is x y e = cc

abbrev pub stay : ℕ → ℕ → Stay
stay arr dep = record { arr = arr; dep = dep }

-- the stay at a place between two, where the trip departs from the one and arrives at the other
abbrev pub blank_at : ℕ → ℕ → ℕ → ℕ → ℕ → Stay
blank_at departs before after arrives place = record { arr = time_between departs before place after arrives; dep = time_between departs before place after arrives }

-- the stay that a row says is the one at its place
record IsSaid (rows : List StopTime) (place : ℕ) (s : Stay) : Type 0 where
  pub timed : is_timed_at rows place ≡ true
  pub arr : s.arr ≡ arrival_at rows place
  pub is : s ≡ stay_at rows place

said : (rows : List StopTime) (place : ℕ) (d : StopTime) (s : Stay) → place < length rows → stay_said (get_or rows place d) ≡ Some s → IsSaid rows place s
said rows place d s lt e = by_test (is_timed (get_or rows place d)) refl e
  where
    row : StopTime
    row = get_or rows place d

    by_test : (b : Bool) → is_timed (get_or rows place d) ≡ b
        → cond {A = Option Stay} b (Some (stay (unwrap_or (arrival_of (get_or rows place d)) 0) (unwrap_or (departure_of (get_or rows place d)) 0))) None ≡ Some s → IsSaid rows place s
    by_test false t h = absurd (none_not_some s h)
    by_test true t h =
        let at = slice_get-get_or rows place d lt in
        let timed : is_timed_at rows place ≡ true = ap (λ o. option_map_or is_timed o false) at ∙ t in
        let arr : arrival_at rows place ≡ unwrap_or (arrival_of (get_or rows place d)) 0 = ap (λ o. unwrap_or (option_and_then arrival_of o) 0) at in
        let dep : departure_at rows place ≡ unwrap_or (departure_of (get_or rows place d)) 0 = ap (λ o. unwrap_or (option_and_then departure_of o) 0) at in
        let whole : stay (unwrap_or (arrival_of (get_or rows place d)) 0) (unwrap_or (departure_of (get_or rows place d)) 0) ≡ s = some_is _ s h in
        let same : s ≡ stay (arrival_at rows place) (departure_at rows place) = sym whole ∙ sym (ap₂ stay arr dep) in
        record {
          timed = timed;
          arr = ap (λ (x : Stay). x.arr) same;
          is = same ∙ sym (ap₂ stay (arrives_timed rows place timed) (departs_timed rows place timed));
        }

-- a row that says no stay has no time
unsaid : (rows : List StopTime) (place : ℕ) (d : StopTime) → place < length rows → stay_said (get_or rows place d) ≡ None → is_timed_at rows place ≡ false
unsaid rows place d lt e = by_test (is_timed (get_or rows place d)) refl e
  where
    by_test : (b : Bool) → is_timed (get_or rows place d) ≡ b
        → cond {A = Option Stay} b (Some (stay (unwrap_or (arrival_of (get_or rows place d)) 0) (unwrap_or (departure_of (get_or rows place d)) 0))) None ≡ None → is_timed_at rows place ≡ false
    by_test true t h = absurd (none_not_some _ (sym h))
    by_test false t h = ap (λ o. option_map_or is_timed o false) (slice_get-get_or rows place d lt) ∙ t

-- stays are equal at places where two functions agree
map_range : {X : Type 0} (f g : ℕ → X) (from count : ℕ) → ((k : ℕ) → from ≤ k → k < from + count → f k ≡ g k) → map f (range_with_len from count) ≡ map g (range_with_len from count)
map_range f g from zero same = refl
map_range {X} f g from (suc count) same =
    ap₂ (λ (x : X) (xs : List X). x ∷ xs) (same from (omega arith) (omega arith)) (map_range f g (from + 1) count (λ k low high. same k (omega (arith, low)) (omega (arith, high))))

range_append : {X : Type 0} (f : ℕ → X) (from n m : ℕ) → map f (range_with_len from n) ++ map f (range_with_len (from + n) m) ≡ map f (range_with_len from (n + m))
range_append f from zero m =
    let a : from + 0 ≡ from = omega arith in let b : 0 + m ≡ m = omega arith in ap (λ v. map f (range_with_len v m)) a ∙ sym (ap (λ v. map f (range_with_len from v)) b)
range_append {X} f from (suc n) m =
    let a : from + suc n ≡ (from + 1) + n = omega arith in
    let b : suc n + m ≡ suc (n + m) = omega arith in
    ap (λ v. f from ∷ (map f (range_with_len (from + 1) n) ++ map f (range_with_len v m))) a
    ∙ ap (λ (l : List X). f from ∷ l) (range_append f (from + 1) n m)
    ∙ sym (ap (λ v. map f (range_with_len from v)) b)

-- at first there is nothing
pub none_yet : (rows : List StopTime) (stays : List Stay) → stays ≡ [] → AreStaysTo rows 0 stays
none_yet rows stays e =
    let size : length stays ≡ 0 = ap length e in
    record {
      are = e ∙ sym (ap (stays_upto rows) size);
      not_past = omega (arith, size);
      begun = λ lt. absurd (omega (arith, lt));
      last_timed = λ lt. absurd (omega (arith, lt, size));
      blank = λ k low high. absurd (omega (arith, high));
    }

-- a row without a time adds nothing
pub blank_row : (rows : List StopTime) (place : ℕ) (d : StopTime) (stays : List Stay) → place < length rows → AreTimelyRows rows → AreStaysTo rows place stays → stay_said (get_or rows place d) ≡ None
    → AreStaysTo rows (place + 1) stays
blank_row rows place d stays lt timely so_far e =
    let none = unsaid rows place d lt e in
    let positive : 0 < place = elim (cases_lt 0 place) [
      | inl less ↦ less
      | inr ge ↦ let same : place ≡ 0 = omega (arith, ge) in absurd (false≢true (sym none ∙ ap (is_timed_at rows) same ∙ first_timed rows timely (omega (arith, lt))))
    ] in
    record {
      are = so_far.are;
      not_past = omega (arith, so_far.not_past);
      begun = λ _. so_far.begun positive;
      last_timed = so_far.last_timed;
      blank = λ k low high. elim (cases_lt k place) [
        | inl less ↦ so_far.blank k low less
        | inr ge ↦ let same : k ≡ place = omega (arith, high, ge) in ap (is_timed_at rows) same ∙ none
      ];
    }

-- the last of the stays is the one before the blank rows
last_is : (rows : List StopTime) (place : ℕ) (stays : List Stay) → AreStaysTo rows place stays → 0 < length stays → slice_get stays (length stays - 1) ≡ Some (stay_at rows (length stays - 1))
last_is rows place stays so_far lt =
    let d = stay_at rows 0 in
    let last = length stays - 1 in
    let inside : last < length stays = omega (arith, lt) in
    slice_get-get_or stays last d inside
    ∙ ap Some (ap (λ (l : List Stay). get_or l last d) so_far.are ∙ get_or-map-range_with_len (stay_at rows) 0 (length stays) last last d inside (omega arith))

-- it ends no later than a row with a time after the blank rows arrives
pub none_later : (rows : List StopTime) (place : ℕ) (d : StopTime) (stays : List Stay) (s : Stay) → place < length rows → AreTimelyRows rows → AreStaysTo rows place stays
    → stay_said (get_or rows place d) ≡ Some s → NoneLater stays s.arr
none_later rows place d stays s inside timely so_far e last at = elim (cases_lt 0 (length stays)) [
  | inl lt ↦
      let i = length stays - 1 in
      let is = said rows place d s inside e in
      let same : stay_at rows i ≡ last = some_is (stay_at rows i) last (sym (last_is rows place stays so_far lt) ∙ at) in
      let timed = so_far.last_timed lt in
      let before : i < place = omega (arith, lt, so_far.not_past) in
      let le = timed_along rows timely i place before timed is.timed in
      let dep : departs_at rows i ≡ last.dep = ap (λ (x : Stay). x.dep) same in
      omega (arith, le, dep, departs_timed rows i timed, is.arr)
  | inr ge ↦
      let none : length stays ≤ length stays - 1 = omega (arith, ge) in
      let clash : length stays - 1 < length stays = slice_get_within stays (length stays - 1) last at in
      absurd (omega (arith, none, clash))
]

-- the blank rows between the last stay and a row with a time
blanks : (rows : List StopTime) (place : ℕ) (stays : List Stay) (s : Stay) → AreTimelyRows rows → AreStaysTo rows place stays → IsSaid rows place s → 0 < length stays
    → blank_after stays place s.arr ≡ map (stay_at rows) (range_with_len (length stays) (place - length stays))
blanks rows place stays s timely so_far is lt =
    let i = length stays - 1 in
    let n = length stays in
    let timed = so_far.last_timed lt in
    let at = last_is rows place stays so_far lt in
    let next : i + 1 ≡ n = omega (arith, lt) in
    let stated : blank_after stays place s.arr ≡ blank_stays (departs_at rows i) i place s.arr = ap (λ o. option_map_or (λ (last : Stay). blank_stays last.dep i place s.arr) o []) at in
    let here : blank_stays (departs_at rows i) i place s.arr ≡ map (blank_at (departs_at rows i) i place s.arr) (range_with_len n (place - n)) = ap (λ v. map (blank_at (departs_at rows i) i place s.arr) (range_with_len v (place - v))) next in
    stated ∙ here ∙ map_range (blank_at (departs_at rows i) i place s.arr) (stay_at rows) n (place - n) (λ k low high. at_place timed k low (omega (arith, high, so_far.not_past)))
  where
    at_place : is_timed_at rows (length stays - 1) ≡ true → (k : ℕ) → length stays ≤ k → k < place → blank_at (departs_at rows (length stays - 1)) (length stays - 1) place s.arr k ≡ stay_at rows k
    at_place timed k low high =
        let i = length stays - 1 in
        let none = so_far.blank k low high in
        let below : i < k = omega (arith, lt, low) in
        let before : timed_before rows k ≡ i = before_is rows i k below timed (λ j lo hi. so_far.blank j (omega (arith, lo, lt)) (omega (arith, hi, high))) in
        let after : timed_after rows k ≡ place = after_is rows k place high is.timed (λ j lo hi. so_far.blank j (omega (arith, lo, low)) hi) in
        let time : blank_time rows k ≡ time_between (departure_at rows i) i k place (arrival_at rows place) =
        ap₂ (λ (b a : ℕ). time_between (departure_at rows b) b k a (arrival_at rows a)) before after in
        let ends : time_between (departs_at rows i) i k place s.arr ≡ time_between (departure_at rows i) i k place (arrival_at rows place) =
        ap₂ (λ (d a : ℕ). time_between d i k place a) (departs_timed rows i timed) is.arr in
        let arr : time_between (departs_at rows i) i k place s.arr ≡ arrives_at rows k = ends ∙ sym time ∙ sym (arrives_blank rows k none) in
        let dep : time_between (departs_at rows i) i k place s.arr ≡ departs_at rows k = ends ∙ sym time ∙ sym (departs_blank rows k none) in
        ap₂ stay arr dep

-- a row with a time adds its stay after those of the blank rows
pub stay_row : (rows : List StopTime) (place : ℕ) (d : StopTime) (stays new : List Stay) (s : Stay) → place < length rows → AreTimelyRows rows → AreStaysTo rows place stays
    → stay_said (get_or rows place d) ≡ Some s → new ≡ (stays ++ blank_after stays place s.arr) ++ s ∷ [] → AreStaysTo rows (place + 1) new
stay_row rows place d stays new s inside timely so_far e grown = by_count (cases_lt 0 (length stays))
  where
    is : IsSaid rows place s
    is = said rows place d s inside e

    from_whole : new ≡ stays_upto rows (place + 1) → AreStaysTo rows (place + 1) new
    from_whole whole =
        let size : length new ≡ place + 1 = ap length whole ∙ length-map-range_with_len (stay_at rows) 0 (place + 1) in
        let last : length new - 1 ≡ place = omega (arith, size) in
        record {
          are = whole ∙ sym (ap (stays_upto rows) size);
          not_past = omega (arith, size);
          begun = λ _. omega (arith, size);
          last_timed = λ _. ap (is_timed_at rows) last ∙ is.timed;
          blank = λ k low high. absurd (omega (arith, low, high, size));
        }

    by_count : (0 < length stays) ⊎ (length stays ≤ 0) → AreStaysTo rows (place + 1) new
    by_count (inl lt) =
        let n = length stays in
        let none : 0 + n ≡ n = omega arith in
        let front : stays ++ blank_after stays place s.arr ≡ stays_upto rows (n + (place - n)) =
        ap₂ (λ (a b : List Stay). a ++ b) so_far.are (blanks rows place stays s timely so_far is lt ∙ sym (ap (λ v. map (stay_at rows) (range_with_len v (place - n))) none)) ∙ range_append (stay_at rows) 0 n (place - n) in
        let sum : n + (place - n) ≡ place = omega (arith, so_far.not_past) in
        from_whole (grown ∙ ap₂ (λ (a : List Stay) (b : Stay). a ++ b ∷ []) (front ∙ ap (stays_upto rows) sum) is.is ∙ sym (map-range_with_len_more (stay_at rows) 0 place place (omega arith)))
    by_count (inr ge) =
        let none : length stays ≡ 0 = omega (arith, ge) in
        let first : place ≡ 0 = elim (cases_lt 0 place) [
          | inl lt ↦ let more = so_far.begun lt in absurd (omega (arith, more, ge))
          | inr le ↦ omega (arith, le)
        ] in
        let nothing : stays ≡ [] = so_far.are ∙ ap (stays_upto rows) none in
        let front : stays ++ blank_after stays place s.arr ≡ stays_upto rows place = ap (λ (l : List Stay). l ++ blank_after l place s.arr) nothing ∙ sym (ap (stays_upto rows) first) in
        from_whole (grown ∙ ap₂ (λ (a : List Stay) (b : Stay). a ++ b ∷ []) front is.is ∙ sym (map-range_with_len_more (stay_at rows) 0 place place (omega arith)))

-- after the last row all stays are there
pub all_stays : (rows : List StopTime) (place : ℕ) (stays : List Stay) → length rows ≤ place → place ≤ length rows → AreTimelyRows rows → AreStaysTo rows place stays → stays ≡ stays_upto rows (length rows)
all_stays rows place stays past upto timely so_far =
    let whole : length stays ≡ length rows = elim (cases_lt (length stays) (length rows)) [
      | inl less ↦
          let last = last_timed rows timely (omega (arith, less)) in
          let none = so_far.blank (length rows - 1) (omega (arith, less)) (omega (arith, past, less)) in
          absurd (false≢true (sym none ∙ last))
      | inr ge ↦ omega (arith, ge, so_far.not_past, upto)
    ] in
    so_far.are ∙ ap (stays_upto rows) whole

-- all stays are in a service day
pub stays_in_day : (rows : List StopTime) (stays : List Stay) → AreTimelyRows rows → stays ≡ stays_upto rows (length rows) → AreInDay stays
stays_in_day rows stays timely are = subst AreInDay (sym are) all
  where
    all : AreInDay (stays_upto rows (length rows))
    all k d lt =
        let inside : k < length rows = omega (arith, lt, length-map-range_with_len (stay_at rows) 0 (length rows)) in
        subst (λ (s : Stay). (s.arr < 360_000) × (s.dep < 360_000)) (sym (get_or-map-range_with_len (stay_at rows) 0 (length rows) k k d inside (omega arith))) (in_day rows timely k inside)

-- a place more between two
pub blank_more : (departs before after arrives place : ℕ) (old now new : List Stay) (s : Stay) → new ≡ now ++ s ∷ [] → s ≡ blank_at departs before after arrives place → before + 1 ≤ place
    → now ≡ old ++ map (blank_at departs before after arrives) (range_with_len (before + 1) (place - (before + 1)))
    → new ≡ old ++ map (blank_at departs before after arrives) (range_with_len (before + 1) (place + 1 - (before + 1)))
blank_more departs before after arrives place old now new s grown is le so_far =
    let of = blank_at departs before after arrives in
    let n = place - (before + 1) in
    let at : before + 1 + n ≡ place = omega (arith, le) in
    let size : place + 1 - (before + 1) ≡ n + 1 = omega (arith, le) in
    grown ∙ ap₂ (λ (a : List Stay) (b : Stay). a ++ b ∷ []) so_far is ∙ append_assoc old (map of (range_with_len (before + 1) n)) (of place ∷ [])
    ∙ ap (λ (l : List Stay). old ++ l) (sym (map-range_with_len_more of (before + 1) n place at)) ∙ sym (ap (λ v. old ++ map of (range_with_len (before + 1) v)) size)
