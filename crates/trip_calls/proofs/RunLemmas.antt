-- The runs of a trip are exactly those of the trip on the dates of its service, with its starts.
use Rattle.std.proofs.Common.{◌≡◌, ◌≢◌, ◌∙◌, ℕ, ◌+◌, ◌<◌, List, [], ◌∷◌, ◌++◌, Option, Some, None, ap, ap₂, arith, get_or, inl, inr, length, refl, subst, sym, take, unwrap_or}
use Rattle.std.proofs.Props.{props}
use Rattle.std.specs.List.{AllPairs, Contains}
use Rattle.std.specs.Option.{ForSome, option_cmp}
use Rattle.std.specs.Ordering.{nat_cmp}
use Rattle.std.specs.declared.cmp.Ordering.{Ordering}
use Rattle.std.specs.declared.cmp.Ordering.TheVariants.{Less, Equal}
use Rattle.std.proofs.lemmas.Cmp.{ranked, tied_itself}
use Rattle.std.proofs.lemmas.List.{flat_map_more, get_or-take, get_or_default, length-take-le, take_more}
use Rattle.std.proofs.lemmas.List.Elements.{All-contains, Contains-append_cases, Contains-append_left, Contains-append_right}
use Rattle.std.proofs.lemmas.Slice.Eq.{bytes_eq-Decides}
use Rattle.lc_model.specs.Change.{is_same_id}
use Rattle.lc_model.specs.RunKey.{date_cmp, key_cmp}
use Rattle.lc_model.specs.declared.call.Call.{Call}
use Rattle.lc_model.specs.declared.date.ServiceDate.{ServiceDate}
use Rattle.lc_model.specs.declared.key.RunKey.{RunKey}
use Rattle.lc_model.specs.declared.run.Run.{Run}
use Rattle.lc_model.proofs.SearchLemmas.{both_tie, id_tie}
use Rattle.lc_time.proofs.DateLemmas.{same_date}
use Rattle.lc_time.specs.Zone.{anchor_of}
use Rattle.lc_time.specs.declared.zone.Zone.{Zone}
use Rattle.gtfs_tables.specs.Fields.TripRows.{HaveOneRowATrip}
use Rattle.gtfs_tables.specs.declared.fields.trip_rows.TripRow.{TripRow}
use Rattle.gtfs_tables.specs.Trips.Timely.{rows_of}
use Rattle.gtfs_tables.specs.declared.trips.stop_times.StopTime.{StopTime}
use Rattle.gtfs_tables.specs.declared.calendars.frequency.Frequency.{Frequency}
use Rattle.service_days.proofs.OrderLemmas.{day_cmp_total, day_on, same_day}
use Rattle.service_days.specs.Days.{InDayOrder, day_cmp}
use Rattle.service_days.specs.declared.service_day.ServiceDay.{ServiceDay}
use Rattle.trip_calls.specs.Plannable.{ArePlannable, IsPlannable}
use Rattle.trip_calls.specs.Runs.{IsRunOf, calls_of}
use Rattle.trip_calls.specs.Starts.{AreStarts, IsStartOf}
use Rattle.trip_calls.specs.TripRuns.{AddsRunsOf, AreAllRuns, AreUntied, dates_of, key_of, run_from, runs_of_trip, runs_on}
use Rattle.trip_calls.specs.declared.start.Start.{Start}
use Rattle.trip_calls.proofs.AnchorLemmas.{anchored}
use Rattle.lc_model.proofs.ListLemmas.{AllPairs-append, AllPairs-flat_map, AllPairs-map, AllPairs-weaker, ComesFrom-map, Contains-cases, Contains-filter, Contains-flat_map, Contains-here, Contains-map, Contains-nil, IsKept-filter, StandsIn-flat_map}

abbrev IsInDay : Option ℕ → Type 0
IsInDay start = ForSome start (λ seconds. seconds < 360_000)

in_day_prop : (start : Option ℕ) → IsProp (IsInDay start)
in_day_prop start = hlevel props

abbrev key : List ℕ → ServiceDate → (start : Option ℕ) → IsInDay start → RunKey
key trip date start fits = record { trip = trip; date = date; start = start; start_in_range = fits }

same_start : (trip : List ℕ) (date : ServiceDate) (s t : Option ℕ) (p : IsInDay s) (q : IsInDay t) → s ≡ t → key trip date s p ≡ key trip date t q
same_start trip date s t p q e =
    subst (λ (v : Option ℕ). (q : IsInDay v) → key trip date s p ≡ key trip date v q) e (λ q. ap (key trip date s) (in_day_prop s p q)) q

key_is : (k : RunKey) (trip : List ℕ) (date : ServiceDate) (start : Start) → k.trip ≡ trip → k.date ≡ date → k.start ≡ start.seconds → k ≡ key_of trip date start
key_is k trip date start e f g =
    same_start k.trip k.date k.start start.seconds k.start_in_range start.in_range g
    ∙ ap (λ (v : List ℕ). key_of v k.date start) e ∙ ap (λ (v : ServiceDate). key_of trip v start) f

abbrev run : RunKey → List Call → Run
run k calls = record { key = k; calls = calls }

-- a run is its key and its calls
pub run_is : (r : Run) (rows : List StopTime) (trip : List ℕ) (date : ServiceDate) (anchor : ℕ) (start : Start) → r.key.trip ≡ trip → r.key.date ≡ date → r.key.start ≡ start.seconds
    → r.calls ≡ calls_of anchor start.seconds rows → r ≡ run_from rows trip date anchor start
run_is r rows trip date anchor start e f g h =
    ap (λ (v : RunKey). run v r.calls) (key_is r.key trip date start e f g) ∙ ap (λ (v : List Call). run (key_of trip date start) v) h

-- what ties is the same
same_dates : (a b : ServiceDate) → date_cmp a b ≡ Equal → a ≡ b
same_dates a b e =
    let first = both_tie (nat_cmp a.year b.year) _ e in
    let rest = both_tie (nat_cmp a.month b.month) (nat_cmp a.day b.day) first.1 in
    same_date a b (ranked a.year b.year Equal (sym first.0)) (ranked a.month b.month Equal (sym rest.0)) (ranked a.day b.day Equal (sym rest.1))

same_starts : (s t : Option ℕ) → option_cmp nat_cmp s t ≡ Equal → s ≡ t
same_starts None None e = refl
same_starts None (Some y) e = cc
same_starts (Some x) None e = cc
same_starts (Some x) (Some y) e = ap Some (ranked x y Equal (sym e))

record AreSameKeys (a b : RunKey) : Type 0 where
  pub trips : a.trip ≡ b.trip
  pub dates : a.date ≡ b.date
  pub starts : a.start ≡ b.start

same_keys : (a b : RunKey) → key_cmp a b ≡ Equal → AreSameKeys a b
same_keys a b e =
    let first = both_tie _ _ e in
    let rest = both_tie (date_cmp a.date b.date) (option_cmp nat_cmp a.start b.start) first.1 in
    record { trips = id_tie a.trip b.trip first.0; dates = same_dates a.date b.date rest.0; starts = same_starts a.start b.start rest.1 }

not_both : (o : Ordering) → o ≡ Less → o ≡ Equal → ⊥
not_both o e f = cc

only_one : (t x : TripRow) → Contains (t ∷ []) x → t ≡ x
only_one t x h = elim (Contains-cases t [] x h) [ inl e ↦ e | inr k ↦ absurd (Contains-nil x k) ]

module _ (trip : TripRow) (times : List StopTime) (spans : List Frequency) (days : List ServiceDay) (zone : Zone) (starts : List Start) where
  abbrev rows : List StopTime
  rows = rows_of times trip.trip

  abbrev dates : List ServiceDay
  dates = dates_of days trip.service

  abbrev made : List Run
  made = runs_of_trip zone rows trip.trip starts dates

  abbrev anchor_on : ServiceDate → ℕ
  anchor_on date = unwrap_or (anchor_of zone date) 0

  -- a run that is made is one of a date and a start
  record IsMade (r : Run) : Type 0 where
    pub day : ServiceDay
    pub stands : Contains days day
    pub service : day.service ≡ trip.service
    pub start : Start
    pub given : Contains starts start
    pub is : run_from rows trip.trip day.date (anchor_on day.date) start ≡ r

  is_made : (r : Run) → Contains made r → IsMade r
  is_made r h =
      let in' = StandsIn-flat_map (runs_on zone rows trip.trip starts) dates r h in
      let from = ComesFrom-map (run_from rows trip.trip in'.of.date (anchor_on in'.of.date)) starts r in'.within in
      let kept = IsKept-filter (λ (d : ServiceDay). is_same_id d.service trip.service) days in'.of in'.stands in
      record { day = in'.of; stands = kept.stands; service = (bytes_eq-Decides in'.of.service trip.service).0 kept.passes; start = from.from; given = from.stands; is = from.is }

  is_run : AreStarts spans trip.trip starts → ArePlannable days → (r : Run) → Contains made r → IsRunOf (trip ∷ []) times spans days zone r
  is_run are planned r h =
      let m = is_made r h in
      let a = anchored zone m.day.date (All-contains (λ (d : ServiceDay). IsPlannable d.date) days m.day planned m.stands) in
      let anchor : anchor_on m.day.date ≡ a.anchor = ap (λ o. unwrap_or o 0) a.is in
      let same : m.day ≡ day_on trip.service m.day.date = same_day m.day (day_on trip.service m.day.date) m.service refl in
      subst (IsRunOf (trip ∷ []) times spans days zone) m.is (record {
        trip = trip;
        stands = Contains-here trip [];
        trip_is = refl;
        on_date = subst (Contains days) same m.stands;
        starts = (are.all m.start.seconds).0 (m.given.0, m.start, m.given.1, m.given.2, refl);
        anchor = anchor_on m.day.date;
        anchor_is = a.is ∙ ap Some (sym anchor);
        calls = refl;
      })

  made_with : AreStarts spans trip.trip starts → (r : Run) (anchor : ℕ) → r.key.trip ≡ trip.trip → Contains days (day_on trip.service r.key.date) → IsStartOf spans trip.trip r.key.start
      → anchor_of zone r.key.date ≡ Some anchor → r.calls ≡ calls_of anchor r.key.start rows → Contains made r
  made_with are r anchor trip_is on_date start anchor_is calls =
      let found = (are.all r.key.start).1 start in
      let s = found.1 in
      let stands : Contains starts s = (found.0, found.2, found.3) in
      let given : r.key.start ≡ s.seconds = sym found.4 in
      let day = day_on trip.service r.key.date in
      let kept = Contains-filter (λ (d : ServiceDay). is_same_id d.service trip.service) days day on_date ((bytes_eq-Decides trip.service trip.service).1 refl) in
      let at : anchor_on r.key.date ≡ anchor = ap (λ o. unwrap_or o 0) anchor_is in
      let whole : r.calls ≡ calls_of (anchor_on r.key.date) s.seconds rows = calls ∙ ap₂ (λ (a : ℕ) (o : Option ℕ). calls_of a o rows) (sym at) given in
      let same = run_is r rows trip.trip r.key.date (anchor_on r.key.date) s trip_is refl given whole in
      let one = Contains-map (run_from rows trip.trip day.date (anchor_on day.date)) starts s stands in
      Contains-flat_map (runs_on zone rows trip.trip starts) dates day r kept (subst (Contains (runs_on zone rows trip.trip starts day)) (sym same) one)

  made_of : AreStarts spans trip.trip starts → (r : Run) → IsRunOf (trip ∷ []) times spans days zone r → Contains made r
  made_of are r is =
      let e : trip ≡ is.trip = only_one trip is.trip is.stands in
      let back = sym e in
      made_with are r is.anchor (is.trip_is ∙ ap (λ (t : TripRow). t.trip) back) (subst (λ (t : TripRow). Contains days (day_on t.service r.key.date)) back is.on_date)
      (subst (λ (t : TripRow). IsStartOf spans t.trip r.key.start) back is.starts) is.anchor_is
      (is.calls ∙ ap (λ (t : TripRow). calls_of is.anchor r.key.start (rows_of times t.trip)) back)

  -- two dates of the service differ
  apart : InDayOrder dates → AllPairs (λ (x y : ServiceDay). x.date ≢ y.date) dates
  apart up =
      AllPairs-weaker (λ (x y : ServiceDay). day_cmp x y ≡ Less) (λ (x y : ServiceDay). x.date ≢ y.date) dates
      (λ x y kx ky less e.
      let of_x = IsKept-filter (λ (d : ServiceDay). is_same_id d.service trip.service) days x kx in
      let of_y = IsKept-filter (λ (d : ServiceDay). is_same_id d.service trip.service) days y ky in
      let service : x.service ≡ y.service = (bytes_eq-Decides x.service trip.service).0 of_x.passes ∙ sym ((bytes_eq-Decides y.service trip.service).0 of_y.passes) in
      let same = same_day x y service e in
      let tie : day_cmp x y ≡ Equal = subst (λ (v : ServiceDay). day_cmp x v ≡ Equal) same (tied_itself day_cmp_total x) in
      not_both (day_cmp x y) less tie)
      up

  untied : AreStarts spans trip.trip starts → InDayOrder dates → AllPairs AreUntied made
  untied are up =
      AllPairs-flat_map AreUntied (λ (x y : ServiceDay). x.date ≢ y.date) (runs_on zone rows trip.trip starts) dates
      (λ day k. AllPairs-map AreUntied (run_from rows trip.trip day.date (anchor_on day.date)) starts
      (AllPairs-weaker (λ (s t : Start). s.seconds ≢ t.seconds) (λ (s t : Start). AreUntied (run_from rows trip.trip day.date (anchor_on day.date) s) (run_from rows trip.trip day.date (anchor_on day.date) t)) starts
      (λ s t ks kt differ e. differ (same_keys (key_of trip.trip day.date s) (key_of trip.trip day.date t) e).starts) are.once))
      (λ x z r s differ kr ks e.
      let from = ComesFrom-map (run_from rows trip.trip x.date (anchor_on x.date)) starts r kr in
      let to = ComesFrom-map (run_from rows trip.trip z.date (anchor_on z.date)) starts s ks in
      differ (ap (λ (v : Run). v.key.date) from.is ∙ (same_keys r.key s.key e).dates ∙ sym (ap (λ (v : Run). v.key.date) to.is)))
      (apart up)

  pub of_trip : AreStarts spans trip.trip starts → ArePlannable days → InDayOrder dates → AreAllRuns (trip ∷ []) times spans days zone made
  of_trip are planned up = record { all = λ r. (is_run are planned r, made_of are r); once = untied are up }

-- a run of some of the trips is one of all
wider : (xs ys : List TripRow) (times : List StopTime) (spans : List Frequency) (days : List ServiceDay) (zone : Zone) (r : Run) → ((t : TripRow) → Contains xs t → Contains ys t)
    → IsRunOf xs times spans days zone r → IsRunOf ys times spans days zone r
wider xs ys times spans days zone r all is = record { trip = is.trip; stands = all is.trip is.stands; trip_is = is.trip_is; on_date = is.on_date; starts = is.starts; anchor = is.anchor; anchor_is = is.anchor_is; calls = is.calls }

module _ (trips : List TripRow) (times : List StopTime) (spans : List Frequency) (days : List ServiceDay) (zone : Zone) where
  -- no trips have no runs
  pub of_none : AreAllRuns [] times spans days zone []
  of_none = record { all = λ r. (λ h. absurd (Contains-nil r h), λ is. absurd (Contains-nil is.trip is.stands)); once = λ i j d lt lj. absurd (omega (arith, lj)) }

  -- the runs of some trips, and those of one trip more
  of_both : (t : TripRow) (a b : List Run) → ((x : TripRow) → Contains trips x → x.trip ≢ t.trip) → AreAllRuns trips times spans days zone a → AreAllRuns (t ∷ []) times spans days zone b
      → AreAllRuns (trips ++ t ∷ []) times spans days zone (a ++ b)
  of_both t a b differ of_a of_b = record {
    all = λ r. (
      λ h. elim (Contains-append_cases a b r h) [
        | inl k ↦ wider trips (trips ++ t ∷ []) times spans days zone r (λ x. Contains-append_left trips (t ∷ []) x) ((of_a.all r).0 k)
        | inr k ↦ wider (t ∷ []) (trips ++ t ∷ []) times spans days zone r (λ x. Contains-append_right trips (t ∷ []) x) ((of_b.all r).0 k)
      ],
      λ is. elim (Contains-append_cases trips (t ∷ []) is.trip is.stands) [
        | inl k ↦ Contains-append_left a b r ((of_a.all r).1 (record { trip = is.trip; stands = k; trip_is = is.trip_is; on_date = is.on_date; starts = is.starts; anchor = is.anchor; anchor_is = is.anchor_is; calls = is.calls }))
        | inr k ↦ Contains-append_right a b r ((of_b.all r).1 (record { trip = is.trip; stands = k; trip_is = is.trip_is; on_date = is.on_date; starts = is.starts; anchor = is.anchor; anchor_is = is.anchor_is; calls = is.calls }))
      ],
    );
    once = AllPairs-append AreUntied a b of_a.once of_b.once (λ x y kx ky e.
        let is_x = (of_a.all x).0 kx in
        let is_y = (of_b.all y).0 ky in
        let one = only_one t is_y.trip is_y.stands in
        differ is_x.trip is_x.stands (sym is_x.trip_is ∙ (same_keys x.key y.key e).trips ∙ is_y.trip_is ∙ sym (ap (λ (v : TripRow). v.trip) one)));
  }

-- one trip more of a list of them
pub of_more : (trips : List TripRow) (i : ℕ) (t : TripRow) (times : List StopTime) (spans : List Frequency) (days : List ServiceDay) (zone : Zone) (a b : List Run)
    → HaveOneRowATrip trips → i < length trips → t ≡ get_or trips i t → AreAllRuns (take i trips) times spans days zone a → AreAllRuns (t ∷ []) times spans days zone b
    → AreAllRuns (take (i + 1) trips) times spans days zone (a ++ b)
of_more trips i t times spans days zone a b once lt is of_a of_b =
    let whole : take (i + 1) trips ≡ take i trips ++ t ∷ [] = take_more trips i t lt ∙ ap (λ (v : TripRow). take i trips ++ v ∷ []) (sym is) in
    subst (λ (l : List TripRow). AreAllRuns l times spans days zone (a ++ b)) (sym whole) (of_both (take i trips) times spans days zone t a b differ of_a of_b)
  where
    differ : (x : TripRow) → Contains (take i trips) x → x.trip ≢ t.trip
    differ x (k, inside, at) e =
        let before : k < i = omega (arith, inside, length-take-le i trips (omega (arith, lt))) in
        let at_k : get_or trips k x ≡ x = sym (get_or-take i trips k x before) ∙ at in
        let at_i : get_or trips i x ≡ t = get_or_default trips i x t lt ∙ sym is in
        once k i x before lt (ap (λ (v : TripRow). v.trip) at_k ∙ e ∙ sym (ap (λ (v : TripRow). v.trip) at_i))

-- a trip's runs after others
pub adds : (t : TripRow) (times : List StopTime) (spans : List Frequency) (days : List ServiceDay) (zone : Zone) (own : List StopTime) (starts given : List Start) (dates : List ServiceDay) (old new : List Run)
    → own ≡ rows_of times t.trip → starts ≡ given → dates ≡ dates_of days t.service → AreStarts spans t.trip given → ArePlannable days → InDayOrder dates
    → new ≡ old ++ runs_of_trip zone own t.trip starts dates → AddsRunsOf t times spans days zone old new
adds t times spans days zone own starts given dates old new e f g are planned up added = record {
  runs = runs_of_trip zone (rows_of times t.trip) t.trip given (dates_of days t.service);
  are = of_trip t times spans days zone given are planned (subst InDayOrder g up);
  added = added ∙ ap (λ (l : List StopTime). old ++ runs_of_trip zone l t.trip starts dates) e ∙ ap (λ (l : List Start). old ++ runs_of_trip zone (rows_of times t.trip) t.trip l dates) f
      ∙ ap (λ (l : List ServiceDay). old ++ runs_of_trip zone (rows_of times t.trip) t.trip given l) g;
}

-- the runs of a date more
pub one_date : (zone : Zone) (rows : List StopTime) (trip : List ℕ) (starts : List Start) (dates : List ServiceDay) (i : ℕ) (day : ServiceDay) (old now new : List Run) → i < length dates → day ≡ get_or dates i day
    → new ≡ now ++ runs_on zone rows trip starts day → now ≡ old ++ runs_of_trip zone rows trip starts (take i dates) → new ≡ old ++ runs_of_trip zone rows trip starts (take (i + 1) dates)
one_date zone rows trip starts dates i day old now new lt is grown so_far =
    grown ∙ ap (λ (l : List Run). l ++ runs_on zone rows trip starts day) so_far ∙ flat_map_more (runs_on zone rows trip starts) old (take i dates) day
    ∙ ap (λ (d : ServiceDay). old ++ runs_of_trip zone rows trip starts (take i dates ++ d ∷ [])) is ∙ ap (λ (l : List ServiceDay). old ++ runs_of_trip zone rows trip starts l) (sym (take_more dates i day lt))
