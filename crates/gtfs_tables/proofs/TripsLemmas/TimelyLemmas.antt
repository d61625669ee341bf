-- The stop times of trips whose rows break no rule never fall.
use Rattle.std.proofs.Common.{◌≡◌, ◌∙◌, ℕ, ◌-◌, ◌<◌, ◌≤◌, ◌&&◌, ◌||◌, Bool, true, false, cond, List, [], ◌∷◌, Option, Some, None, ap, ap₂, arith, codes, get_or, is_none, is_some, length, map, nat_lt, refl, subst, suc, sym, zero}
use Rattle.std.specs.Prelude.{if◌then◌else◌, option_and_then, option_map}
use Rattle.std.specs.List.{All, AllPairs, cons_option, filter_map, list_any, slice_get}
use Rattle.std.specs.Option.{option_map_or, option_or}
use Rattle.std.proofs.lemmas.Bool.{false≢true}
use Rattle.std.proofs.lemmas.Bool.Decides.{nat_tests}
use Rattle.std.proofs.lemmas.List.{length-map}
use Rattle.std.proofs.lemmas.List.Elements.{All-cons, All-filter, All-head, All-nil, All-tail, filter_passes}
use Rattle.std.proofs.lemmas.List.Folds.{Any-from_list_any}
use Rattle.std.proofs.lemmas.List.FromFn.{get_or-map-range_with_len, length-map-range_with_len}
use Rattle.std.proofs.lemmas.List.Sorted.{All-permutation}
use Rattle.std.proofs.lemmas.Option.{slice_get-get_or}
use Rattle.std.proofs.lemmas.Slice.Eq.{bytes_eq-Decides}
use Rattle.lc_model.proofs.RangesLemmas.{filter_none}
use Rattle.std.specs.Str.{bytes_eq}
use Rattle.gtfs_rows.specs.Sheet.{Sheet}
use Rattle.lc_model.specs.Change.{is_same_id}
use Rattle.lc_model.specs.declared.stop.Stop.{Stop}
use Rattle.lc_time.proofs.SaidLemmas.{times_said}
use Rattle.gtfs_tables.specs.Fields.Columns.{row_at, text_at}
use Rattle.gtfs_tables.specs.Fields.Places.{first_place}
use Rattle.gtfs_tables.specs.Fields.Rules.{IsUnbroken}
use Rattle.gtfs_tables.specs.Fields.Times.{IsInDay}
use Rattle.gtfs_tables.specs.Fields.TripRows.{HasTrip}
use Rattle.gtfs_tables.specs.declared.fields.trip_rows.TripRow.{TripRow}
use Rattle.gtfs_tables.proofs.FieldsLemmas.PlaceFacts.{place_passes}
use Rattle.gtfs_tables.proofs.FieldsLemmas.RuleFacts.{none_broken}
use Rattle.gtfs_tables.specs.Trips.OnTime.{AreOfTrips, AreOnTime}
use Rattle.gtfs_tables.specs.Trips.StopTimeRows.{ids_of_trips, stop_time_rule_at, stop_time_rules}
use Rattle.gtfs_tables.specs.Trips.StopTimes.{SaysVisits, time_of}
use Rattle.gtfs_tables.specs.Trips.Timely.{AreTimely, AreTimelyRows, NoneFalls, arrival_of, departure_of, is_timed, rows_of}
use Rattle.gtfs_tables.specs.Trips.Timing.{early_row, is_left_out, last_time, time_after, timing_fault, trip_fault, trip_fault_at, untimed_at, visits_of}
use Rattle.gtfs_tables.specs.Trips.Trips.{trip_id_of}
use Rattle.gtfs_tables.specs.Trips.Visits.{AreVisits, visit_at, visits_of_rows}
use Rattle.gtfs_tables.specs.declared.trips.stop_times.StopTime.{StopTime}
use Rattle.gtfs_tables.specs.declared.trips.visits.Visit.{Visit}
use Rattle.gtfs_tables.proofs.TripsLemmas.KeptFacts.{all_kept, pairs_cons, pairs_kept}

-- the arrival and the departure of a visit, as of its stop time
abbrev arrives : Visit → Option ℕ
arrives v = option_or v.arr v.dep

abbrev departs : Visit → Option ℕ
departs v = option_or v.dep v.arr

none_not_some : {A : Type 0} (x : A) → (◌≡◌ {A = Option A} None (Some x)) → ⊥
none_not_some x e = cc

some_is : {A : Type 0} (x y : A) → Some x ≡ Some y → x ≡ y
some_is x y e = cc

-- where three times do not fall, the last is the last
record AreThree (before arr dep after : ℕ) : Type 0 where
  pub from : before ≤ arr
  pub at_a_stop : arr ≤ dep
  pub to : dep ≡ after

three : (before arr dep after : ℕ) → last_time before arr dep ≡ Some after → AreThree before arr dep after
three before arr dep after h = by_tests (nat_lt arr before) (nat_lt dep arr) refl refl h
  where
    by_tests : (b c : Bool) → nat_lt arr before ≡ b → nat_lt dep arr ≡ c → cond (b || c) None (Some dep) ≡ Some after → AreThree before arr dep after
    by_tests true c e f is = absurd (none_not_some after is)
    by_tests false true e f is = absurd (none_not_some after is)
    by_tests false false e f is = record { from = grind (arith, nat_tests); at_a_stop = grind (arith, nat_tests); to = some_is dep after is }

-- what a row with these times says, where the last time before it is known, and the last time after it
record Follows (before : ℕ) (arr dep : Option ℕ) (after : ℕ) : Type 0 where
  pub no_earlier : before ≤ after
  pub from : (a : ℕ) → option_or arr dep ≡ Some a → before ≤ a
  pub at_a_stop : NoneFalls (option_or arr dep) (option_or dep arr)
  pub to : (d : ℕ) → option_or dep arr ≡ Some d → d ≤ after

follows : (before : ℕ) (arr dep : Option ℕ) (after : ℕ) → time_after before arr dep ≡ Some after → Follows before arr dep after
follows before None None after h =
    let same : before ≡ after = some_is before after h in
    record { no_earlier = omega arith; from = λ a e. absurd (none_not_some a e); at_a_stop = λ a b e f. absurd (none_not_some a e); to = λ d e. absurd (none_not_some d e) }
follows before (Some arr) None after h =
    let t = three before arr arr after h in
    record {
      no_earlier = omega (arith, t.from, t.to);
      from = λ a e. let same : arr ≡ a = some_is arr a e in omega (arith, t.from);
      at_a_stop = λ a b e f. let one : arr ≡ a = some_is arr a e in let two : arr ≡ b = some_is arr b f in omega arith;
      to = λ d e. let same : arr ≡ d = some_is arr d e in omega (arith, t.to);
    }
follows before None (Some dep) after h =
    let t = three before dep dep after h in
    record {
      no_earlier = omega (arith, t.from, t.to);
      from = λ a e. let same : dep ≡ a = some_is dep a e in omega (arith, t.from);
      at_a_stop = λ a b e f. let one : dep ≡ a = some_is dep a e in let two : dep ≡ b = some_is dep b f in omega arith;
      to = λ d e. let same : dep ≡ d = some_is dep d e in omega (arith, t.to);
    }
follows before (Some arr) (Some dep) after h =
    let t = three before arr dep after h in
    record {
      no_earlier = omega (arith, t.from, t.at_a_stop, t.to);
      from = λ a e. let same : arr ≡ a = some_is arr a e in omega (arith, t.from);
      at_a_stop = λ a b e f. let one : arr ≡ a = some_is arr a e in let two : dep ≡ b = some_is dep b f in omega (arith, t.at_a_stop);
      to = λ d e. let same : dep ≡ d = some_is dep d e in omega (arith, t.to);
    }

-- no visit has a time before this one
abbrev NoneBefore : ℕ → Visit → Type 0
NoneBefore before v = (a : ℕ) → arrives v ≡ Some a → before ≤ a

record NeverFall (before : ℕ) (visits : List Visit) : Type 0 where
  pub from : All (NoneBefore before) visits
  pub at_a_stop : All (λ (v : Visit). NoneFalls (arrives v) (departs v)) visits
  pub along : AllPairs (λ (v w : Visit). NoneFalls (departs v) (arrives w)) visits

-- where no row is early, no time falls
never_fall : (before : ℕ) (visits : List Visit) → early_row before visits ≡ None → NeverFall before visits
never_fall before [] h = record { from = All-nil (NoneBefore before); at_a_stop = All-nil (λ (v : Visit). NoneFalls (arrives v) (departs v)); along = λ i j d lt lj. absurd (omega (arith, lj)) }
never_fall before (v ∷ rest) h = by_time (time_after before v.arr v.dep) refl h (λ after e. never_fall after rest e)
  where
    by_time : (o : Option ℕ) → time_after before v.arr v.dep ≡ o → option_map_or (λ after. early_row after rest) o (Some v.row) ≡ None
        → ((after : ℕ) → early_row after rest ≡ None → NeverFall after rest) → NeverFall before (v ∷ rest)
    by_time None is e later = absurd (none_not_some v.row (sym e))
    by_time (Some after) is e later =
        let f = follows before v.arr v.dep after is in
        let r = later after e in
        record {
          from = All-cons (NoneBefore before) v rest f.from (λ k d lt a e'. let behind : after ≤ a = r.from k d lt a e' in omega (arith, f.no_earlier));
          at_a_stop = All-cons (λ (w : Visit). NoneFalls (arrives w) (departs w)) v rest f.at_a_stop r.at_a_stop;
          along = pairs_cons (λ (x y : Visit). NoneFalls (departs x) (arrives y)) v rest (λ k d lt a b ea eb. let upto : a ≤ after = f.to a ea in let behind : after ≤ b = r.from k d lt b eb in omega arith) r.along;
        }

-- no row of a trip breaks a rule with the others
record AreUnbroken (visits : List Visit) : Type 0 where
  pub first : untimed_at visits 0 ≡ None
  pub last : untimed_at visits (length visits - 1) ≡ None
  pub early : early_row 0 visits ≡ None

unbroken : (visits : List Visit) → timing_fault visits ≡ None → AreUnbroken visits
unbroken visits h = by_parts (untimed_at visits 0) (untimed_at visits (length visits - 1)) (early_row 0 visits) refl refl refl h
  where
    by_parts : (a b : Option (ℕ × ℕ)) (c : Option ℕ) → untimed_at visits 0 ≡ a → untimed_at visits (length visits - 1) ≡ b → early_row 0 visits ≡ c
        → option_or a (option_or b (option_map (λ row. (14, row)) c)) ≡ None → AreUnbroken visits
    by_parts (Some x) b c e f g is = absurd (none_not_some x (sym is))
    by_parts None (Some x) c e f g is = absurd (none_not_some x (sym is))
    by_parts None None (Some x) e f g is = let fault : ℕ × ℕ = (14, x) in absurd (none_not_some fault (sym is))
    by_parts None None None e f g is = record { first = e; last = f; early = g }

-- rule 13 of one visit
abbrev untimed : Visit → Option (ℕ × ℕ)
untimed v = if is_none v.arr && is_none v.dep then Some (13, v.row) else None

-- a visit at a place where none is untimed has a time
timed_at : (visits : List Visit) (place : ℕ) (v : Visit) → untimed_at visits place ≡ None → slice_get visits place ≡ Some v → (is_some v.arr || is_some v.dep) ≡ true
timed_at visits place v h is = by_times v.arr v.dep refl refl (sym (ap (option_and_then untimed) is) ∙ h)
  where
    by_times : (a d : Option ℕ) → v.arr ≡ a → v.dep ≡ d → untimed v ≡ None → (is_some v.arr || is_some v.dep) ≡ true
    by_times (Some x) d e f k = ap (λ (o : Option ℕ). is_some o || is_some v.dep) e
    by_times None (Some x) e f k = ap (λ (o : Option ℕ). is_some o || is_some v.dep) e ∙ ap is_some f
    by_times None None e f k =
        let both : (is_none v.arr && is_none v.dep) ≡ true = ap (λ (o : Option ℕ). is_none o && is_none v.dep) e ∙ ap is_none f in
        let fault : ℕ × ℕ = (13, v.row) in
        absurd (none_not_some fault (sym (sym (ap (λ (b : Bool). cond {A = Option (ℕ × ℕ)} b (Some fault) None) both) ∙ k)))

-- the stop time of a visit at a stop
abbrev made_of : Visit → Option (List ℕ) → Option StopTime
made_of v stop = option_map (λ stop. record { trip = v.trip; stop = stop; seq = v.seq; arr = v.arr; dep = v.dep; board = v.board; alight = v.alight }) stop

-- the stop time of a visit has its times
record HasTimes (v : Visit) (t : StopTime) : Type 0 where
  pub arr : t.arr ≡ v.arr
  pub dep : t.dep ≡ v.dep
  pub trip : t.trip ≡ v.trip

made : (v : Visit) (stop : Option (List ℕ)) (t : StopTime)
    → made_of v stop ≡ Some t → HasTimes v t
made v None t h = absurd (none_not_some t h)
made v (Some stop) t h =
    let whole : StopTime = record { trip = v.trip; stop = stop; seq = v.seq; arr = v.arr; dep = v.dep; board = v.board; alight = v.alight } in
    let same : whole ≡ t = some_is whole t h in
    record { arr = sym (ap (λ (x : StopTime). x.arr) same); dep = sym (ap (λ (x : StopTime). x.dep) same); trip = sym (ap (λ (x : StopTime). x.trip) same) }

has_times : (visits : List Visit) (v : Visit) (t : StopTime) → time_of visits v ≡ Some t → HasTimes v t
has_times visits v t h = by_test (is_left_out visits v.trip) h
  where
    by_test : (b : Bool) → cond {A = Option StopTime} b None (made_of v v.stop) ≡ Some t → HasTimes v t
    by_test true e = absurd (none_not_some t e)
    by_test false e = made v v.stop t e

-- the rows of a trip are made of the visits of that trip
rows_kept : (f : Visit → Option StopTime) → ((v : Visit) (t : StopTime) → f v ≡ Some t → t.trip ≡ v.trip) → (trip : List ℕ) (visits : List Visit)
    → rows_of (filter_map f visits) trip ≡ filter_map f (visits_of visits trip)
rows_kept f same trip [] = refl
rows_kept f same trip (v ∷ rest) = by_item (f v) refl (is_same_id v.trip trip) refl (rows_kept f same trip rest)
  where
    by_item : (o : Option StopTime) → f v ≡ o → (b : Bool) → is_same_id v.trip trip ≡ b → rows_of (filter_map f rest) trip ≡ filter_map f (visits_of rest trip)
        → rows_of (cons_option o (filter_map f rest)) trip ≡ filter_map f (cond b (v ∷ visits_of rest trip) (visits_of rest trip))
    by_item None is true e more = more ∙ sym (ap (λ o. cons_option o (filter_map f (visits_of rest trip))) is)
    by_item None is false e more = more
    by_item (Some t) is b e more =
        let one : is_same_id t.trip trip ≡ b = ap (λ (x : List ℕ). is_same_id x trip) (same v t is) ∙ e in
        ap (λ c. cond c (t ∷ rows_of (filter_map f rest) trip) (rows_of (filter_map f rest) trip)) one ∙ by_test b
      where
        by_test : (c : Bool) → cond c (t ∷ rows_of (filter_map f rest) trip) (rows_of (filter_map f rest) trip) ≡ filter_map f (cond c (v ∷ visits_of rest trip) (visits_of rest trip))
        by_test true = ap (λ l. t ∷ l) more ∙ sym (ap (λ o. cons_option o (filter_map f (visits_of rest trip))) is)
        by_test false = more

-- where each visit makes a stop time, there are as many
as_many : (f : Visit → Option StopTime) (visits : List Visit) → All (λ v. is_some (f v) ≡ true) visits → length (filter_map f visits) ≡ length visits
as_many f [] all = refl
as_many f (v ∷ rest) all = by_item (f v) (All-head (λ w. is_some (f w) ≡ true) v rest all) (as_many f rest (All-tail (λ w. is_some (f w) ≡ true) v rest all))
  where
    by_item : (o : Option StopTime) → is_some o ≡ true → length (filter_map f rest) ≡ length rest → length (cons_option o (filter_map f rest)) ≡ length (v ∷ rest)
    by_item None e h = absurd (false≢true e)
    by_item (Some t) e h = omega (arith, h)

-- each stop time is at the place of its visit
record IsMadeAt (f : Visit → Option StopTime) (visits : List Visit) (place : ℕ) (t : StopTime) : Type 0 where
  pub visit : Visit
  pub at : slice_get visits place ≡ Some visit
  pub is : f visit ≡ Some t

made_at : (f : Visit → Option StopTime) (visits : List Visit) → All (λ v. is_some (f v) ≡ true) visits → (place : ℕ) (t : StopTime)
    → slice_get (filter_map f visits) place ≡ Some t → IsMadeAt f visits place t
made_at f [] all place t h = absurd (none_not_some t h)
made_at f (v ∷ rest) all place t h =
    by_item (f v) refl (All-head (λ w. is_some (f w) ≡ true) v rest all) place h (λ k at. made_at f rest (All-tail (λ w. is_some (f w) ≡ true) v rest all) k t at)
  where
    by_item : (o : Option StopTime) → f v ≡ o → is_some o ≡ true → (k : ℕ) → slice_get (cons_option o (filter_map f rest)) k ≡ Some t
        → ((k : ℕ) → slice_get (filter_map f rest) k ≡ Some t → IsMadeAt f rest k t) → IsMadeAt f (v ∷ rest) k t
    by_item None is e k at later = absurd (false≢true e)
    by_item (Some u) is e zero at later = record { visit = v; at = refl; is = is ∙ at }
    by_item (Some u) is e (suc k) at later =
        let r = later k at in
        record { visit = r.visit; at = r.at; is = r.is }

-- where a test finds nothing, it passes nowhere
none_any : {X : Type 0} (p : X → Bool) (xs : List X) → list_any p xs ≡ false → All (λ x. p x ≡ false) xs
none_any p [] h = All-nil (λ x. p x ≡ false)
none_any {X} p (x ∷ xs) h = by_test (p x) refl h (λ k. none_any p xs k)
  where
    by_test : (b : Bool) → p x ≡ b → (b || list_any p xs) ≡ false → (list_any p xs ≡ false → All (λ y. p y ≡ false) xs) → All (λ y. p y ≡ false) (x ∷ xs)
    by_test true e k more = absurd (false≢true (sym k))
    by_test false e k more = All-cons (λ y. p y ≡ false) x xs e (more k)

-- each visit of a trip that is not left out makes a stop time
makes_one : (visits : List Visit) (trip : List ℕ) → is_left_out visits trip ≡ false → (v : Visit) → (is_none v.stop && is_same_id v.trip trip) ≡ false → is_same_id v.trip trip ≡ true
    → is_some (time_of visits v) ≡ true
makes_one visits trip stays v there same = by_stop v.stop refl
  where
    one : v.trip ≡ trip
    one = (bytes_eq-Decides v.trip trip).0 same

    not_left : is_left_out visits v.trip ≡ false
    not_left = ap (is_left_out visits) one ∙ stays

    by_stop : (o : Option (List ℕ)) → v.stop ≡ o → is_some (time_of visits v) ≡ true
    by_stop None e = absurd (false≢true (sym there ∙ ap (λ (o : Option (List ℕ)). is_none o && is_same_id v.trip trip) e ∙ same))
    by_stop (Some stop) e =
        ap (λ b. is_some (cond {A = Option StopTime} b None (made_of v v.stop))) not_left
        ∙ ap (λ (o : Option (List ℕ)). is_some (made_of v o)) e

all_make : (visits : List Visit) (trip : List ℕ) → is_left_out visits trip ≡ false → All (λ v. is_some (time_of visits v) ≡ true) (visits_of visits trip)
all_make visits trip stays =
    let p : Visit → Bool = λ v. is_same_id v.trip trip in
    let there = All-filter p (λ v. (is_none v.stop && is_same_id v.trip trip) ≡ false) visits (none_any (λ v. is_none v.stop && is_same_id v.trip trip) visits stays) in
    let same = filter_passes p visits in
    λ k d lt. makes_one visits trip stays (get_or (visits_of visits trip) k d) (there k d lt) (same k d lt)

-- a trip that is left out has no stop times
none_made : (f : Visit → Option StopTime) (visits : List Visit) → All (λ v. f v ≡ None) visits → filter_map f visits ≡ []
none_made f [] all = refl
none_made f (v ∷ rest) all =
    ap (λ o. cons_option o (filter_map f rest)) (All-head (λ w. f w ≡ None) v rest all) ∙ none_made f rest (All-tail (λ w. f w ≡ None) v rest all)

left_makes_none : (visits : List Visit) (trip : List ℕ) → is_left_out visits trip ≡ true → filter_map (time_of visits) (visits_of visits trip) ≡ []
left_makes_none visits trip left =
    none_made (time_of visits) (visits_of visits trip)
    (λ k d lt.
    let v = get_or (visits_of visits trip) k d in
    let one : v.trip ≡ trip = (bytes_eq-Decides v.trip trip).0 (filter_passes (λ (w : Visit). is_same_id w.trip trip) visits k d lt) in
    ap (λ b. cond {A = Option StopTime} b None (made_of v v.stop)) (ap (is_left_out visits) one ∙ left))

no_rows : AreTimelyRows []
no_rows = record {
  first_timed = λ t e. absurd (none_not_some t e);
  last_timed = λ t e. absurd (none_not_some t e);
  arrivals_in_day = All-nil (λ (t : StopTime). IsInDay t.arr);
  departures_in_day = All-nil (λ (t : StopTime). IsInDay t.dep);
  at_a_stop = All-nil (λ t. NoneFalls (arrival_of t) (departure_of t));
  along = λ i j d lt lj. absurd (omega (arith, lj));
}

stop_time_timed : (v : Visit) (t : StopTime) → HasTimes v t → (is_some v.arr || is_some v.dep) ≡ true → is_timed t ≡ true
stop_time_timed v t h timed = ap₂ (λ (a d : Option ℕ). is_some a || is_some d) h.arr h.dep ∙ timed

module _ (visits : List Visit) (trip : List ℕ) (on_time : AreOnTime visits) where
  timely_of : is_left_out visits trip ≡ false → timing_fault (visits_of visits trip) ≡ None → AreTimelyRows (filter_map (time_of visits) (visits_of visits trip))
  timely_of stays none =
      let f = time_of visits in
      let own = visits_of visits trip in
      let all = all_make visits trip stays in
      let u = unbroken own none in
      let n = never_fall 0 own u.early in
      let p : Visit → Bool = λ v. is_same_id v.trip trip in
      record {
        first_timed = λ t at. let m = made_at f own all 0 t at in stop_time_timed m.visit t (has_times visits m.visit t m.is) (timed_at own 0 m.visit u.first m.at);
        last_timed = λ t at.
            let there : slice_get (filter_map f own) (length own - 1) ≡ Some t = sym (ap (λ n. slice_get (filter_map f own) (n - 1)) (as_many f own all)) ∙ at in
            let m = made_at f own all (length own - 1) t there in
            stop_time_timed m.visit t (has_times visits m.visit t m.is) (timed_at own (length own - 1) m.visit u.last m.at);
        arrivals_in_day = all_kept f (λ v. IsInDay v.arr) (λ t. IsInDay t.arr) (λ v t is h. subst IsInDay (sym (has_times visits v t is).arr) h) own (All-filter p (λ v. IsInDay v.arr) visits on_time.arrivals_in_day);
        departures_in_day = all_kept f (λ v. IsInDay v.dep) (λ t. IsInDay t.dep) (λ v t is h. subst IsInDay (sym (has_times visits v t is).dep) h) own (All-filter p (λ v. IsInDay v.dep) visits on_time.departures_in_day);
        at_a_stop = all_kept f (λ v. NoneFalls (arrives v) (departs v)) (λ t. NoneFalls (arrival_of t) (departure_of t)) (λ v t is h a b ea eb. h a b (sym (arrival_is v t (has_times visits v t is)) ∙ ea) (sym (departure_is v t (has_times visits v t is)) ∙ eb)) own n.at_a_stop;
        along = pairs_kept f (λ v w. NoneFalls (departs v) (arrives w)) (λ t s. NoneFalls (departure_of t) (arrival_of s))
            (λ v w t s is is' h a b ea eb. h a b (sym (departure_is v t (has_times visits v t is)) ∙ ea) (sym (arrival_is w s (has_times visits w s is')) ∙ eb)) own n.along;
      }
    where
      arrival_is : (v : Visit) (t : StopTime) → HasTimes v t → arrival_of t ≡ arrives v
      arrival_is v t h = ap₂ (λ (a d : Option ℕ). option_or a d) h.arr h.dep

      departure_is : (v : Visit) (t : StopTime) → HasTimes v t → departure_of t ≡ departs v
      departure_is v t h = ap₂ (λ (d a : Option ℕ). option_or d a) h.dep h.arr

  timely_trip : AreTimelyRows (filter_map (time_of visits) (visits_of visits trip))
  timely_trip = by_test (is_left_out visits trip) refl (on_time.unbroken trip)
    where
      by_test : (b : Bool) → is_left_out visits trip ≡ b → cond b None (timing_fault (visits_of visits trip)) ≡ None → AreTimelyRows (filter_map (time_of visits) (visits_of visits trip))
      by_test true left e = subst AreTimelyRows (sym (left_makes_none visits trip left)) no_rows
      by_test false stays e = timely_of stays e

-- the stop times that visits on time say are timely
pub timely : (visits : List Visit) (times : List StopTime) → times ≡ filter_map (time_of visits) visits → AreOnTime visits → AreTimely times
timely visits times are on_time trip =
    subst (λ (l : List StopTime). AreTimelyRows (rows_of l trip)) (sym are)
    (subst AreTimelyRows (sym (rows_kept (time_of visits) (λ v t is. (has_times visits v t is).trip) trip visits)) (timely_trip visits trip on_time))

-- a trip of the list breaks no rule, and a trip that is not there has no visits
pub on_time : (trips : List TripRow) (visits : List Visit) → AreOfTrips trips visits → IsUnbroken (trip_fault_at visits trips) (length trips) → AreOnTime visits
on_time trips visits of unbroken = record { unbroken = none; arrivals_in_day = of.arrivals_in_day; departures_in_day = of.departures_in_day }
  where
    at_place : (t : TripRow) (place : ℕ) → place < length trips → get_or trips place t ≡ t → trip_fault visits t.trip ≡ None
    at_place t place lt is =
        let at : slice_get trips place ≡ Some t = slice_get-get_or trips place t lt ∙ ap Some is in
        sym (ap (option_and_then (λ (t : TripRow). trip_fault visits t.trip)) at) ∙ unbroken place lt

    none : (trip : List ℕ) → trip_fault visits trip ≡ None
    none trip = by_any (list_any (λ (v : Visit). is_same_id v.trip trip) visits) refl
      where
        by_left : (b : Bool) (own : List Visit) → own ≡ [] → cond b None (timing_fault own) ≡ None
        by_left true own e = refl
        by_left false own e = ap timing_fault e

        by_any : (b : Bool) → list_any (λ (v : Visit). is_same_id v.trip trip) visits ≡ b → trip_fault visits trip ≡ None
        by_any true e =
            let found = Any-from_list_any (λ (v : Visit). is_same_id v.trip trip) visits e in
            let v = found.1 in
            let one : v.trip ≡ trip = (bytes_eq-Decides v.trip trip).0 found.4 in
            let has : HasTrip trips v.trip = subst (λ (w : Visit). HasTrip trips w.trip) found.3 (of.known found.0 v found.2) in
            subst (λ (x : List ℕ). trip_fault visits x ≡ None) (has.4 ∙ one) (at_place has.1 has.0 has.2 has.3)
        by_any false e = by_left (is_left_out visits trip) (visits_of visits trip) (filter_none (λ (v : Visit). is_same_id v.trip trip) visits (none_any (λ (v : Visit). is_same_id v.trip trip) visits e))

-- a row that breaks no rule is one of a trip of the list
known_row : (stops : List Stop) (trips : List TripRow) (sheet : Sheet) (place : ℕ) → stop_time_rule_at stops trips sheet place ≡ None → HasTrip trips (trip_id_of sheet (row_at sheet place))
unfolding stop_time_rules
known_row stops trips sheet place h =
    let trip = trip_id_of sheet (row_at sheet place) in
    let none = none_broken (stop_time_rules stops trips sheet place) h in
    by_first trip (first_place bytes_eq (ids_of_trips trips) trip) refl none.1.1.1.0
  where
    by_first : (trip : List ℕ) (o : Option ℕ) → first_place bytes_eq (ids_of_trips trips) trip ≡ o → is_none (first_place bytes_eq (ids_of_trips trips) trip) ≡ false → HasTrip trips trip
    by_first trip None e k = absurd (false≢true (sym k ∙ ap is_none e))
    by_first trip (Some first) e k =
        let found = place_passes (λ other. bytes_eq other trip) (ids_of_trips trips) 0 first [] e in
        let place = found.0 in
        let inside : place < length (ids_of_trips trips) = found.2 in
        let size : length (ids_of_trips trips) ≡ length trips = length-map trips (λ (t : TripRow). t.trip) in
        let there : place < length trips = omega arith in
        row_of trips place there trip ((bytes_eq-Decides _ trip).0 found.3)
      where
        row_of : (rows : List TripRow) (k : ℕ) → k < length rows → (x : List ℕ) → get_or (map (λ (t : TripRow). t.trip) rows) k [] ≡ x → HasTrip rows x
        row_of [] k lt x is = absurd (omega (arith, lt))
        row_of (t ∷ rows) zero lt x is = (0, t, omega arith, refl, is)
        row_of (t ∷ rows) (suc k) lt x is = let r = row_of rows k (omega (arith, lt)) x is in (suc r.0, r.1, omega (arith, r.2), r.3, r.4)

-- what holds of the visit of each row
all_visits : (P : Visit → Type 0) (sheet : Sheet) (visits : List Visit) → AreVisits sheet visits → ((k : ℕ) → k < length sheet.rows → P (visit_at sheet k)) → All P visits
all_visits P sheet visits are at = All-permutation P (visits_of_rows sheet) visits are.are of_rows
  where
    of_rows : All P (visits_of_rows sheet)
    of_rows k d lt =
        let inside : k < length sheet.rows = omega (arith, lt, length-map-range_with_len (visit_at sheet) 0 (length sheet.rows)) in
        subst P (sym (get_or-map-range_with_len (visit_at sheet) 0 (length sheet.rows) k k d inside (omega arith))) (at k inside)

-- visits of rows that break no rule are of the trips of the list
pub of_trips : (stops : List Stop) (trips : List TripRow) (bytes : List ℕ) (visits : List Visit) → SaysVisits stops trips bytes visits → AreOfTrips trips visits
of_trips stops trips bytes visits says = record {
  known = all_visits (λ v. HasTrip trips v.trip) says.sheet visits says.are (λ k lt. known_row stops trips says.sheet k (says.sound.unbroken k lt));
  arrivals_in_day = all_visits (λ v. IsInDay v.arr) says.sheet visits says.are (λ k lt s e. ((times_said (text_at says.sheet (row_at says.sheet k) (codes "arrival_time")) s).0 e).in_range);
  departures_in_day = all_visits (λ v. IsInDay v.dep) says.sheet visits says.are (λ k lt s e. ((times_said (text_at says.sheet (row_at says.sheet k) (codes "departure_time")) s).0 e).in_range);
}
