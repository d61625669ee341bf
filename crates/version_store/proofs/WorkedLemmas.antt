-- A small store: what its versions are, and near values that they are not.
use Rattle.std.proofs.Common.{◌≡◌, inl, inr, ℕ, zero, suc, ◌<◌, List, [], ◌∷◌, length, Bool, true, false, Some, None, refl, ap, sym, subst, ◌∙◌, arith, lit≤, lit<}
use Rattle.std.specs.Prelude.{codes, pos, if◌then◌else◌}
use Rattle.std.specs.List.{Any, Contains, last_or}
use Rattle.std.proofs.lemmas.List.Sorted.{IsPermutation-refl}
use Rattle.std.specs.Str.{IsUtf8}
use Rattle.std.proofs.lemmas.Str.{IsUtf8-from_ascii}
use Rattle.std.proofs.lemmas.Str.Ascii.{IsAscii-from_all}
use Rattle.std.proofs.lemmas.List.Elements.{All-cons, All-nil}
use Rattle.lc_model.specs.declared.call.Call.{Call}
use Rattle.lc_model.specs.declared.connection.Connection.{Connection}
use Rattle.lc_model.specs.declared.key.RunKey.{RunKey}
use Rattle.lc_model.specs.declared.run.Run.{Run}
use Rattle.lc_model.proofs.ListLemmas.{Contains-cases, Contains-here, Contains-nil}
use Rattle.live_calls.proofs.LawLemmas.{one_live_list}
use Rattle.lc_model.specs.Versions.Added.{IsFurtherRun, added_calls, has_key}
use Rattle.lc_model.specs.Versions.Live.{live_calls_of}
use Rattle.lc_model.specs.Versions.Naming.{is_added, news_for}
use Rattle.lc_model.specs.Versions.News.{TripSaid}
use Rattle.lc_model.specs.Versions.Timetable.{AreLiveRuns, IsLiveRun}
use Rattle.lc_model.specs.Versions.Worked.{at, late, stop_news, two_stops}
use Rattle.lc_model.specs.declared.versions.event.Relation.TheVariants.{Scheduled}
use Rattle.lc_model.specs.declared.versions.event.TripKind.TheVariants as kinds
use Rattle.version_store.specs.Rows.{AreConnectionsAt, AreRows}
use Rattle.version_store.specs.Store.{AreRunsAt}
use Rattle.rt_protobuf.specs.Reading.{content_at, field_at, parts_of, parts_within, text_at, varint_at}
use Rattle.trip_updates.specs.Faults.{read, walk}
use Rattle.trip_updates.specs.declared.fault.Part.TheVariants as parts
use Rattle.trip_updates.specs.declared.fault.RtFault.{RtFault}
use Rattle.trip_updates.specs.declared.fault.RtFault.TheVariants as rts
use Rattle.version_store.specs.Admission.{IsRefused}
use Rattle.version_store.specs.declared.admission.AdmitFault.{AdmitFault}
use Rattle.version_store.specs.declared.admission.AdmitFault.TheVariants as faults
use Rattle.version_store.proofs.OutcomeLemmas.{one_outcome}
use Rattle.version_store.specs.Worked.{WorkedFurther, WorkedRefusals, WorkedRows, WorkedRuns, added_calls_to, added_news, connection_to, dated_news, late_run, on_time, run_with, small_store}
use Rattle.version_store.proofs.NearLemmas.{one_list_between}

-- the news of the version of 07:00
abbrev late_news : TripSaid
late_news = dated_news (codes "T1") kinds.Scheduled (stop_news (Some 2) None Scheduled (late (pos 60)) None ∷ [])

same_run : (a b : Run) → a.key ≡ b.key → a.calls ≡ b.calls → b ≡ a
same_run a b key calls =
    sym (ap (λ (k : RunKey). let r : Run = record { key = k; calls = a.calls } in r) key ∙ ap (λ (c : List Call). let r : Run = record { key = b.key; calls = c } in r) calls)

-- news of which none is added make no further run
none_added : (b : Bool) (news : TripSaid) → last_or None (if b then late_news ∷ [] else []) ≡ Some news → is_added news.kind ≡ true → ⊥
none_added true news e added = let same : late_news ≡ news = some_is_one late_news news e in let f : false ≡ true = ap (λ (n : TripSaid). is_added n.kind) same ∙ added in cc where
  some_is_one : (x y : TripSaid) → Some x ≡ Some y → x ≡ y
  some_is_one x y e = cc
none_added false news e added = let f : None ≡ Some news = e in cc

no_further : (run : Run) → IsFurtherRun (on_time ∷ []) [] (late_news ∷ []) run → ⊥
no_further run further = none_added (has_key run.key late_news) further.news further.last further.added

no_further_at_base : (run : Run) → IsFurtherRun (on_time ∷ []) [] [] run → ⊥
no_further_at_base run further = let f : None ≡ Some further.news = further.last in cc

-- live runs of the one run
abbrev LiveOf : List TripSaid → Run → Type 0
LiveOf news live = AreLiveRuns (on_time ∷ []) [] news (live ∷ [])

live_of : (news : List TripSaid) (live : Run) → IsLiveRun (on_time ∷ []) news live → ((run : Run) → IsLiveRun (on_time ∷ []) news run → live ≡ run)
    → ((run : Run) → IsFurtherRun (on_time ∷ []) [] news run → ⊥) → LiveOf news live
live_of news live is one none = record {
  in_order = λ i j d before inside. absurd (omega arith);
  exactly = λ run. (
    (λ there. elim (Contains-cases live [] run there) [
      | inl same ↦ inl (subst (IsLiveRun (on_time ∷ []) news) same is)
      | inr nothing ↦ absurd (Contains-nil run nothing)
    ]),
    (λ either. elim either [
      | inl alive ↦ subst (Contains (live ∷ [])) (one run alive) (Contains-here live [])
      | inr further ↦ absurd (none run further)
    ]),
  );
}

-- the run of the timetable is the one run
the_run : (run : Run) → Contains (on_time ∷ []) run → on_time ≡ run
the_run run there = elim (Contains-cases on_time [] run there) [
  | inl same ↦ same
  | inr nothing ↦ absurd (Contains-nil run nothing)
]

late_is_live : IsLiveRun (on_time ∷ []) (late_news ∷ []) late_run
late_is_live = record { run = on_time; of_timetable = Contains-here on_time []; same_key = refl; calls = refl }

on_time_is_live : IsLiveRun (on_time ∷ []) [] on_time
on_time_is_live = record { run = on_time; of_timetable = Contains-here on_time []; same_key = refl; calls = refl }

-- and no other run is live than that with these calls
only_live : (news : List TripSaid) (live : Run) → live.key ≡ on_time.key → live.calls ≡ live_calls_of on_time.calls (news_for on_time.key news)
    → (run : Run) → IsLiveRun (on_time ∷ []) news run → live ≡ run
only_live news live key calls run alive =
    let same : on_time ≡ alive.run = the_run alive.run alive.of_timetable in
    sym (same_run live run (key ∙ ap (λ (r : Run). r.key) same ∙ sym alive.same_key)
    (calls ∙ ap (λ (r : Run). live_calls_of r.calls (news_for r.key news)) same ∙ sym alive.calls))

at_the_message : AreRunsAt small_store (at 7 0) (late_run ∷ [])
at_the_message = live_of (late_news ∷ []) late_run late_is_live (only_live (late_news ∷ []) late_run refl refl) no_further

at_the_base : AreRunsAt small_store (at 6 0) (on_time ∷ [])
at_the_base = live_of [] on_time on_time_is_live (only_live [] on_time refl refl) no_further_at_base

second_arrival : List Call → ℕ
second_arrival [] = 0
second_arrival (a ∷ []) = 0
second_arrival (a ∷ b ∷ rest) = b.arr

first_calls : List Run → List Call
first_calls [] = []
first_calls (r ∷ rest) = r.calls

arrivals_differ : (a b : Run) (more others : List Run) → a ∷ more ≡ b ∷ others → second_arrival a.calls ≡ second_arrival b.calls
unfolding first_calls
arrivals_differ a b more others e = ap (λ (l : List Run). second_arrival (first_calls l)) e

on_time_or_late : (more others : List Run) → late_run ∷ more ≡ on_time ∷ others → ⊥
unfolding second_arrival
on_time_or_late more others e = let f : 29_460 ≡ 29_400 = arrivals_differ late_run on_time more others e in omega (arith, f)

-- the live runs of a version are one list
one_at_message : (live : List Run) → AreRunsAt small_store (at 7 0) live → late_run ∷ [] ≡ live
one_at_message live are = one_live_list _ _ _ (late_run ∷ []) live at_the_message are

pub worked_runs : WorkedRuns
worked_runs = record {
  at_the_base = at_the_base;
  late_at_the_base = λ wrong. on_time_or_late [] [] (one_live_list _ _ _ (late_run ∷ []) (on_time ∷ []) wrong at_the_base);
  at_the_message = at_the_message;
  no_run = λ wrong. (let f : 1 ≡ 0 = ap length (one_at_message [] wrong) in omega (arith, f));
  on_time_still = λ wrong. on_time_or_late [] [] (one_at_message (on_time ∷ []) wrong);
  twice = λ wrong. (let f : 1 ≡ 2 = ap length (one_at_message (late_run ∷ late_run ∷ []) wrong) in omega (arith, f));
  one_more = λ other wrong. (let f : 1 ≡ 2 = ap length (one_at_message (late_run ∷ other ∷ []) wrong) in omega (arith, f));
}

connections_at_message : AreConnectionsAt small_store (at 7 0) (connection_to (at 8 11) 60 ∷ [])
connections_at_message = record {
  live = late_run ∷ [];
  are_runs = at_the_message;
  are_connections = record { all = IsPermutation-refl (connection_to (at 8 11) 60 ∷ []); in_order = λ i j d before inside. absurd (omega arith) };
}

from_eight : AreRows small_store (at 7 0) (at 8 0) None (connection_to (at 8 11) 60 ∷ [])
from_eight = record { all = connection_to (at 8 11) 60 ∷ []; of_version = connections_at_message; departing = refl }

up_to_eight : AreRows small_store (at 7 0) 0 (Some (at 8 0)) []
up_to_eight = record { all = connection_to (at 8 11) 60 ∷ []; of_version = connections_at_message; departing = refl }

arrival_of_first : List Connection → ℕ
arrival_of_first [] = 0
arrival_of_first (c ∷ rest) = c.arr

late_or_on_time : connection_to (at 8 11) 60 ∷ [] ≡ connection_to (at 8 10) 0 ∷ [] → ⊥
unfolding arrival_of_first
late_or_on_time e = let f : 29_460 ≡ 29_400 = ap arrival_of_first e in omega (arith, f)

one_from_eight : (rows : List Connection) → AreRows small_store (at 7 0) (at 8 0) None rows → connection_to (at 8 11) 60 ∷ [] ≡ rows
one_from_eight rows are = one_list_between small_store (at 7 0) (at 8 0) None (connection_to (at 8 11) 60 ∷ []) rows from_eight are

pub worked_rows : WorkedRows
worked_rows = record {
  from_eight = from_eight;
  no_row = λ wrong. (let f : 1 ≡ 0 = ap length (one_from_eight [] wrong) in omega (arith, f));
  on_time_still = λ wrong. late_or_on_time (one_from_eight (connection_to (at 8 10) 0 ∷ []) wrong);
  twice = λ wrong. (let f : 1 ≡ 2 = ap length (one_from_eight (connection_to (at 8 11) 60 ∷ connection_to (at 8 11) 60 ∷ []) wrong) in omega (arith, f));
  up_to_eight = up_to_eight;
  at_eight_too = λ wrong.
      (let f : 0 ≡ 1 = ap length (one_list_between small_store (at 7 0) 0 (Some (at 8 0)) [] (connection_to (at 8 11) 60 ∷ []) up_to_eight wrong) in omega (arith, f));
}

-- FURTHER RUNS

first_byte : List ℕ → ℕ
first_byte [] = 0
first_byte (b ∷ rest) = b

other_first_byte : codes "T1" ≡ codes "X1" → ⊥
unfolding first_byte
other_first_byte e = let f : 84 ≡ 88 = ap first_byte e in omega (arith, f)

x1_is_new : Any (λ (r : Run). r.key ≡ (run_with (codes "X1") []).key) (on_time ∷ []) → ⊥
x1_is_new (zero, r, inside, is, same) = other_first_byte (ap (λ (q : Run). q.key.trip) is ∙ ap (λ (k : RunKey). k.trip) same)
x1_is_new (suc k, r, inside, is, same) = absurd (omega (arith, inside))

news_are_one : (a b : TripSaid) → Some a ≡ Some b → a ≡ b
news_are_one a b e = cc

x1_is_text : IsUtf8 (codes "X1")
x1_is_text =
    let P = λ (b : ℕ). b < 128 in
    IsUtf8-from_ascii (codes "X1") (IsAscii-from_all (codes "X1") (All-cons P 88 (49 ∷ []) (lit< tt) (All-cons P 49 [] (lit< tt) (All-nil P))))

x1 : IsFurtherRun (on_time ∷ []) two_stops (added_news (codes "X1") ∷ []) (run_with (codes "X1") (added_calls_to (at 8 25)))
x1 = record {
  is_new = x1_is_new;
  news = added_news (codes "X1");
  last = refl;
  added = refl;
  trip_named = (λ none. (let f : 2 ≡ 0 = ap length none in omega (arith, f)), x1_is_text);
  calls = refl;
  two_at_least = lit≤ tt;
}

calls_of_x1 : (calls : List Call) → IsFurtherRun (on_time ∷ []) two_stops (added_news (codes "X1") ∷ []) (run_with (codes "X1") calls) → calls ≡ added_calls_to (at 8 25)
calls_of_x1 calls further = further.calls ∙ ap (λ (n : TripSaid). added_calls two_stops n.stops) (sym (news_are_one (added_news (codes "X1")) further.news further.last))

a_second_later : added_calls_to 30_301 ≡ added_calls_to (at 8 25) → ⊥
unfolding second_arrival
a_second_later e = let f : 30_301 ≡ 30_300 = ap second_arrival e in omega (arith, f)

canceled : (calls : List Call) → IsFurtherRun (on_time ∷ []) two_stops (added_news (codes "X1") ∷ dated_news (codes "X1") kinds.Canceled [] ∷ []) (run_with (codes "X1") calls) → ⊥
canceled calls further =
    let f : false ≡ true = ap (λ (n : TripSaid). is_added n.kind) (news_are_one (dated_news (codes "X1") kinds.Canceled []) further.news further.last) ∙ further.added in cc

other_trip : (calls : List Call) → IsFurtherRun (on_time ∷ []) two_stops (added_news (codes "X1") ∷ []) (run_with (codes "X2") calls) → ⊥
other_trip calls further = let f : None ≡ Some further.news = further.last in cc

pub worked_further : WorkedFurther
worked_further = record {
  x1 = x1;
  a_second_later = λ wrong. a_second_later (calls_of_x1 (added_calls_to 30_301) wrong);
  by_the_timetable = λ calls wrong. wrong.is_new (0, on_time, lit< tt, refl, refl);
  one_call = λ wrong. (let two = wrong.two_at_least in omega (arith, two));
  other_trip = other_trip;
  canceled = canceled;
}

-- WHAT IS REFUSED

-- nothing lacks its header
no_header : IsRefused small_store [] (faults.Broken (rts.Missing parts.Header))
unfolding read walk parts_of parts_within
no_header = record { short = lit≤ tt; first = refl }

kind_of_fault : AdmitFault → ℕ
kind_of_fault (faults.TooLong count) = 0
kind_of_fault (faults.Broken fault) = 1
kind_of_fault (faults.NotNewer newest) = 2
kind_of_fault (faults.Full messages kept) = 3
kind_of_fault faults.NoMemory = 4

other_cause : (fault : AdmitFault) → (kind_of_fault fault ≡ 1 → ⊥) → IsRefused small_store [] fault → ⊥
unfolding kind_of_fault
other_cause fault other refused = other (ap kind_of_fault (one_outcome.one_cause small_store [] fault (faults.Broken (rts.Missing parts.Header)) refused no_header))

fault_in : AdmitFault → RtFault
fault_in (faults.TooLong count) = rts.NoMemory
fault_in (faults.Broken fault) = fault
fault_in (faults.NotNewer newest) = rts.NoMemory
fault_in (faults.Full messages kept) = rts.NoMemory
fault_in faults.NoMemory = rts.NoMemory

no_moment : IsRefused small_store [] (faults.Broken rts.NoMoment) → ⊥
unfolding fault_in
no_moment refused =
    let same : rts.NoMoment ≡ rts.Missing parts.Header = ap fault_in (one_outcome.one_cause small_store [] (faults.Broken rts.NoMoment) (faults.Broken (rts.Missing parts.Header)) refused no_header) in
    cc

-- a tag without its length is cut off
cut_off : IsRefused small_store (10 ∷ []) (faults.Broken (rts.Cut 0))
unfolding read walk parts_of parts_within field_at varint_at content_at text_at
cut_off = record { short = lit≤ tt; first = refl }

not_the_end : IsRefused small_store (10 ∷ []) (faults.Broken (rts.Missing parts.Header)) → ⊥
unfolding fault_in
not_the_end refused =
    let same : rts.Missing parts.Header ≡ rts.Cut 0 = ap fault_in (one_outcome.one_cause small_store (10 ∷ []) (faults.Broken (rts.Missing parts.Header)) (faults.Broken (rts.Cut 0)) refused cut_off) in
    cc

pub worked_refusals : WorkedRefusals
unfolding kind_of_fault
worked_refusals = record {
  no_header = no_header;
  no_moment = no_moment;
  not_newer = λ newest. other_cause (faults.NotNewer newest) (λ e. omega (arith, e));
  full = λ messages kept. other_cause (faults.Full messages kept) (λ e. omega (arith, e));
  too_long = λ count. other_cause (faults.TooLong count) (λ e. omega (arith, e));
  taken = λ update taken. one_outcome.not_both small_store [] update (faults.Broken (rts.Missing parts.Header)) taken no_header;
  cut_off = cut_off;
  not_the_end = not_the_end;
}
