-- A version has a list of connections. Its further runs and the runs of the timetable are put into a map one after the other, and
-- their connections into order.
use Rattle.std.proofs.Common.{◌≡◌, ◌⊎◌, inl, inr, ℕ, ◌<◌, ◌≤◌, List, [], ◌∷◌, ◌++◌, length, get_or, map, Bool, true, false, Option, Some, None, refl, sym, ap, ◌∙◌, subst, arith, append_assoc, ⊎_elim}
use Rattle.std.specs.Prelude.{if◌then◌else◌}
use Rattle.std.specs.BTreeMap.{BTreeMap, insert_entry}
use Rattle.std_collections.specs.Layout.BTreeMap.{btree_map}
use Rattle.std.specs.Cmp.{nat_cmp_total, on_total, then_total, IsTotalOrder}
use Rattle.std.specs.List.{All, AllByRecursion}
use Rattle.std.specs.List.Sorted.{IsStrictlySortedBy}
use Rattle.std.specs.Map.{keys_of, lookup, remove_entry}
use Rattle.std.specs.Option.{IsSomeAnd}
use Rattle.std.specs.Ordering.{match_ordering, ordering_reverse}
use Rattle.std.specs.Str.{is_utf8}
use Rattle.std.specs.declared.cmp.Ordering.{Ordering}
use Rattle.std.specs.declared.cmp.Ordering.TheVariants.{Less, Equal, Greater}
use Rattle.std.proofs.Math.Seq.{get_or-append_seam, take-append_seam}
use Rattle.std.proofs.lemmas.Bool.{cases_lt, eq-eqb}
use Rattle.std.proofs.lemmas.Cmp.{eq_by_cmp_equiv, tied_itself}
use Rattle.std.proofs.lemmas.List.{append-nil, get_or_default, length-append}
use Rattle.std.proofs.lemmas.List.Elements.{All-contains}
use Rattle.std.proofs.lemmas.Map.{lookup-remove_entry}
use Rattle.std.proofs.lemmas.Map.Keys.{IsDistinct-from_sorted}
use Rattle.std.proofs.lemmas.Slice.Eq.{bytes_eq-Decides}
use Rattle.std.proofs.lemmas.Str.{IsUtf8-from_is_utf8, is_utf8-from_IsUtf8}
use Rattle.lc_model.specs.Call.{GoesForward, InSequence}
use Rattle.lc_model.specs.Connection.{AreConnectionsOf, connections_of, departure_cmp}
use Rattle.lc_model.specs.Run.{InKeyOrder}
use Rattle.lc_model.specs.RunKey.{date_cmp, key_cmp}
use Rattle.lc_model.specs.Text.{IsIdText}
use Rattle.lc_model.specs.Totals.{departure_cmp_total, key_cmp_total}
use Rattle.lc_model.specs.declared.call.Call.{Call}
use Rattle.lc_model.specs.declared.connection.Connection.{Connection}
use Rattle.lc_model.specs.declared.date.ServiceDate.{ServiceDate}
use Rattle.lc_model.specs.declared.key.RunKey.{RunKey}
use Rattle.lc_model.specs.declared.run.Run.{Run}
use Rattle.lc_model.specs.declared.stop.Stop.{Stop}
use Rattle.lc_model.proofs.ConnectionLemmas.{in_sequence, untied_connections}
use Rattle.lc_model.proofs.KeyLemmas.{same_keys}
use Rattle.lc_model.specs.Versions.Added.{IsFurtherRun, added_calls, has_key, is_start}
use Rattle.lc_model.specs.Versions.Live.{live_calls_of}
use Rattle.lc_model.specs.Versions.Naming.{is_added, news_for}
use Rattle.lc_model.specs.Versions.News.{TripSaid}
use Rattle.lc_model.specs.Versions.Timetable.{AreLiveRuns, IsLiveRun}
use Rattle.live_calls.specs.AddedRun.{HasNoKey, IsAddedRun}
use Rattle.live_calls.proofs.AddedLemmas.{added_go_forward}
use Rattle.live_calls.proofs.LiveLemmas.{live_go_forward}
use Rattle.version_store.specs.Further.{HasExactly, IsFurther, IsOfEither, PutsFurther, calls_of}
use Rattle.version_store.specs.Laws.{SomeListOfRows}
use Rattle.version_store.specs.Store.{news_of}
use Rattle.version_store.proofs.FurtherLemmas.{IsLater, are_live, by_bool, further_more, later_run, live_more, no_further, none_put, run_of, runs_exactly, runs_in_order, same_from_tie, tie}
use Rattle.lc_model.proofs.PlacedLemmas.{in_strict_order}

abbrev Entries : Type 0
Entries = List (RunKey × List Call)

abbrev map_of : Entries → BTreeMap RunKey (List Call)
map_of entries = btree_map entries (inl tt)

abbrev found : RunKey → Entries → Option (List Call)
found key entries = lookup (tie key) entries

-- the keys strictly increase
abbrev AreSorted : Entries → Type 0
AreSorted entries = IsStrictlySortedBy key_cmp (keys_of entries)

tie_flips : (a b : RunKey) → tie a b ≡ tie b a
tie_flips a b = (eq_by_cmp_equiv key_cmp_total).symm a b

same_test : {X : Type 0} (b c : Bool) (x y : X) (r : X) → b ≡ c → (if b then x else r) ≡ (if c then x else (if b then y else r))
same_test true true x y r e = refl
same_test true false x y r e = absurd (cc)
same_test false true x y r e = absurd (cc)
same_test false false x y r e = refl

other_test : {X : Type 0} (b c : Bool) (x y t r : X) → (b ≡ true → c ≡ true → ⊥) → t ≡ (if c then x else r) → (if b then y else t) ≡ (if c then x else (if b then y else r))
other_test true true x y t r apart e = absurd (apart refl refl)
other_test true false x y t r apart e = refl
other_test false true x y t r apart e = e
other_test false false x y t r apart e = e

inserted_by : (key other : RunKey) (calls : List Call) (e : RunKey × List Call) (es tail : Entries) (o : Ordering) → key_cmp key e.0 ≡ o
    → found other tail ≡ (if tie key other then Some calls else found other es)
    → found other (match_ordering o ((key, calls) ∷ e ∷ es) ((e.0, calls) ∷ es) (e ∷ tail)) ≡ (if tie key other then Some calls else found other (e ∷ es))
inserted_by key other calls e es tail Less is behind = ap (λ b. if b then Some calls else found other (e ∷ es)) (tie_flips other key)
inserted_by key other calls e es tail Equal is behind =
    let same : key ≡ e.0 = same_keys key e.0 is in
    let test : tie other e.0 ≡ tie key other = ap (tie other) (sym same) ∙ tie_flips other key in
    same_test (tie other e.0) (tie key other) (Some calls) (Some e.1) (found other es) test
inserted_by key other calls e es tail Greater is behind =
    other_test (tie other e.0) (tie key other) (Some calls) (Some e.1) (found other tail) (found other es)
    (λ here there.
    let same : key ≡ e.0 = same_from_tie key other there ∙ same_from_tie other e.0 here in
    let equal : key_cmp key e.0 ≡ Equal = subst (λ (k : RunKey). key_cmp key k ≡ Equal) same (tied_itself key_cmp_total key) in
    let f : Equal ≡ Greater = sym equal ∙ is in cc)
    behind

-- what is found after calls were put at a key
inserted_at : (key other : RunKey) (calls : List Call) (es : Entries) → found other (insert_entry key_cmp es key calls) ≡ (if tie key other then Some calls else found other es)
inserted_at key other calls [] = let none : Option (List Call) = None in ap (λ b. if b then Some calls else none) (tie_flips other key)
inserted_at key other calls (e ∷ es) = inserted_by key other calls e es (insert_entry key_cmp es key calls) (key_cmp key e.0) refl (inserted_at key other calls es)

all_inserted_by : (P : RunKey → Type 0) (key : RunKey) (calls : List Call) (e : RunKey × List Call) (es tail : Entries) (o : Ordering) → P key → AllByRecursion P (keys_of (e ∷ es)) → AllByRecursion P (keys_of tail)
    → AllByRecursion P (keys_of (match_ordering o ((key, calls) ∷ e ∷ es) ((e.0, calls) ∷ es) (e ∷ tail)))
all_inserted_by P key calls e es tail Less at all behind = (at, all)
all_inserted_by P key calls e es tail Equal at all behind = all
all_inserted_by P key calls e es tail Greater at all behind = (all.0, behind)

all_inserted : (P : RunKey → Type 0) (key : RunKey) (calls : List Call) (es : Entries) → P key → AllByRecursion P (keys_of es) → AllByRecursion P (keys_of (insert_entry key_cmp es key calls))
all_inserted P key calls [] at all = (at, all)
all_inserted P key calls (e ∷ es) at all = all_inserted_by P key calls e es (insert_entry key_cmp es key calls) (key_cmp key e.0) at all (all_inserted P key calls es at all.1)

all_above : (key first : RunKey) (keys : List RunKey) → key_cmp key first ≡ Less → AllByRecursion (λ y. key_cmp first y ≡ Less) keys → AllByRecursion (λ y. key_cmp key y ≡ Less) keys
all_above key first [] less all = all
all_above key first (next ∷ keys) less all = (key_cmp_total.trans key first next less all.0, all_above key first keys less all.1)

inserted_sorted_by : (key : RunKey) (calls : List Call) (e : RunKey × List Call) (es tail : Entries) (o : Ordering) → key_cmp key e.0 ≡ o → AreSorted (e ∷ es) → AreSorted tail
    → ((P : RunKey → Type 0) → P key → AllByRecursion P (keys_of es) → AllByRecursion P (keys_of tail))
    → AreSorted (match_ordering o ((key, calls) ∷ e ∷ es) ((e.0, calls) ∷ es) (e ∷ tail))
unfolding IsStrictlySortedBy
inserted_sorted_by key calls e es tail Less is sorted behind all = ((is, all_above key e.0 (keys_of es) is sorted.0), sorted)
inserted_sorted_by key calls e es tail Equal is sorted behind all = sorted
inserted_sorted_by key calls e es tail Greater is sorted behind all =
    let back : key_cmp e.0 key ≡ Less = key_cmp_total.antisymm e.0 key ∙ ap ordering_reverse is in
    (all (λ y. key_cmp e.0 y ≡ Less) back sorted.0, behind)

inserted_sorted : (key : RunKey) (calls : List Call) (es : Entries) → AreSorted es → AreSorted (insert_entry key_cmp es key calls)
unfolding IsStrictlySortedBy
inserted_sorted key calls [] sorted = (tt, tt)
inserted_sorted key calls (e ∷ es) sorted =
    inserted_sorted_by key calls e es (insert_entry key_cmp es key calls) (key_cmp key e.0) refl sorted (inserted_sorted key calls es sorted.1)
    (λ P at all. all_inserted P key calls es at all)

all_removed_by : (P : RunKey → Type 0) (e : RunKey × List Call) (es tail : Entries) (b : Bool) → AllByRecursion P (keys_of (e ∷ es)) → AllByRecursion P (keys_of tail) → AllByRecursion P (keys_of (if b then es else (e ∷ tail)))
all_removed_by P e es tail true all behind = all.1
all_removed_by P e es tail false all behind = (all.0, behind)

all_removed : (P : RunKey → Type 0) (test : RunKey → Bool) (es : Entries) → AllByRecursion P (keys_of es) → AllByRecursion P (keys_of (remove_entry test es))
all_removed P test [] all = all
all_removed P test (e ∷ es) all = all_removed_by P e es (remove_entry test es) (test e.0) all (all_removed P test es all.1)

removed_sorted_by : (e : RunKey × List Call) (es tail : Entries) (b : Bool) → AreSorted (e ∷ es) → AreSorted tail → AllByRecursion (λ y. key_cmp e.0 y ≡ Less) (keys_of tail) → AreSorted (if b then es else (e ∷ tail))
unfolding IsStrictlySortedBy
removed_sorted_by e es tail true sorted behind all = sorted.1
removed_sorted_by e es tail false sorted behind all = (all, behind)

removed_sorted : (test : RunKey → Bool) (es : Entries) → AreSorted es → AreSorted (remove_entry test es)
unfolding IsStrictlySortedBy
removed_sorted test [] sorted = sorted
removed_sorted test (e ∷ es) sorted =
    removed_sorted_by e es (remove_entry test es) (test e.0) sorted (removed_sorted test es sorted.1) (all_removed (λ y. key_cmp e.0 y ≡ Less) test es sorted.0)

-- the entries with calls at a key, or with none there
record Put (es : Entries) (key : RunKey) (calls : Option (List Call)) : Type 0 where
  new : Entries
  sorted : AreSorted new
  at : (other : RunKey) → found other new ≡ (if tie key other then calls else found other es)

put : (es : Entries) (key : RunKey) (calls : Option (List Call)) → AreSorted es → Put es key calls
put es key (Some calls) sorted = record { new = insert_entry key_cmp es key calls; sorted = inserted_sorted key calls es sorted; at = λ other. inserted_at key other calls es }
put es key None sorted = record {
  new = remove_entry (tie key) es;
  sorted = removed_sorted (tie key) es sorted;
  at = λ other. lookup-remove_entry (eq_by_cmp_equiv key_cmp_total) (tie key) ((eq_by_cmp_equiv key_cmp_total).congr key) other es (IsDistinct-from_sorted key_cmp (keys_of es) sorted);
}

-- the news of an added trip have a key that a run may have, or none
record Keyed (news : TripSaid) : Type 0 where
  key : RunKey
  of_news : has_key key news ≡ true
  trip_named : IsIdText key.trip

date_cmp_total : IsTotalOrder date_cmp
date_cmp_total =
    then_total (on_total (λ (d : ServiceDate). d.year) nat_cmp_total)
    (then_total (on_total (λ (d : ServiceDate). d.month) nat_cmp_total) (on_total (λ (d : ServiceDate). d.day) nat_cmp_total))

same_start : (start : Option ℕ) → is_start start start ≡ true
same_start None = refl
same_start (Some start) = eq-eqb start start refl

keyed_by : (news : TripSaid) (date : ServiceDate) (start : Option ℕ) → news.date ≡ Some date → news.start ≡ start → ((seconds : ℕ) → start ≡ Some seconds → seconds < 360_000) → IsIdText news.trip → Keyed news
keyed_by news date start on at under named =
    let key : RunKey = record { trip = news.trip; date = date; start = start; start_in_range = under } in record {
      key = key;
      of_news =
          rw (on, at, (bytes_eq-Decides news.trip news.trip).1 refl, tied_itself date_cmp_total date, same_start start);
      trip_named = named;
    }

keyed_start : (news : TripSaid) (date : ServiceDate) (start : Option ℕ) → news.date ≡ Some date → news.start ≡ start → IsIdText news.trip → Keyed news ⊎ HasNoKey news
keyed_start news date None on at named = inl (keyed_by news date None on at (λ seconds e. absurd (cc)) named)
keyed_start news date (Some seconds) on at named =
    ⊎_elim
    (λ (low : seconds < 360_000). inl (keyed_by news date (Some seconds) on at (λ other e. let same : seconds ≡ other = cc in subst (λ n. n < 360_000) same low) named))
    (λ (high : 360_000 ≤ seconds). inr (inr (inr (subst (λ (s : Option ℕ). IsSomeAnd s (λ n. 360_000 ≤ n)) (sym at) high))))
    (cases_lt seconds 360_000)

keyed_date : (news : TripSaid) (date : Option ServiceDate) → news.date ≡ date → IsIdText news.trip → Keyed news ⊎ HasNoKey news
keyed_date news None on named = inr (inr (inl on))
keyed_date news (Some date) on named = keyed_start news date news.start on refl named

named_or_not : (trip : List ℕ) → IsIdText trip ⊎ (IsIdText trip → ⊥)
named_or_not [] = inr (λ named. named.0 refl)
named_or_not (b ∷ bs) =
    by_bool (IsIdText (b ∷ bs) ⊎ (IsIdText (b ∷ bs) → ⊥)) (is_utf8 (b ∷ bs))
    (λ e. inl ((λ f. cc), IsUtf8-from_is_utf8 (b ∷ bs) e))
    (λ e. inr (λ named. let f : false ≡ true = sym e ∙ is_utf8-from_IsUtf8 (b ∷ bs) named.1 in cc))

keyed_or_not : (news : TripSaid) → Keyed news ⊎ HasNoKey news
keyed_or_not news = ⊎_elim (λ (named : IsIdText news.trip). keyed_date news news.date refl named) (λ (not_named : IsIdText news.trip → ⊥). inr (inl not_named)) (named_or_not news.trip)

-- the run that news with a key make, or none
made_or_none : (stops : List Stop) (news : TripSaid) → Keyed news → (run : Option Run) × IsFurther stops news run
made_or_none stops news keyed =
    by_bool ((run : Option Run) × IsFurther stops news run) (is_added news.kind)
    (λ added.
    ⊎_elim
    (λ (few : length (added_calls stops news.stops) < 2). let made : IsFurther stops news None = inr (inr few) in (None, made))
    (λ (enough : 2 ≤ length (added_calls stops news.stops)).
    let run : Run = record { key = keyed.key; calls = added_calls stops news.stops } in
    let is : IsAddedRun stops news run = record { same_key = keyed.of_news; trip_named = keyed.trip_named; calls = refl; two_at_least = enough } in
    let made : IsFurther stops news (Some run) = (added, is) in (Some run, made))
    (cases_lt (length (added_calls stops news.stops)) 2))
    (λ not_added. let made : IsFurther stops news None = inl not_added in (None, made))

-- entries in order that have exactly the calls of these runs
record Holds (IsSo : Run → Type 0) : Type 0 where
  entries : Entries
  sorted : AreSorted entries
  exactly : HasExactly (map_of entries) IsSo

one_further : (stops : List Stop) (done : List TripSaid) (news : TripSaid) → Holds (IsFurtherRun [] stops done) → Holds (IsFurtherRun [] stops (done ++ news ∷ []))
one_further stops done news holds = ⊎_elim with_key without_key (keyed_or_not news) where
  with_key : Keyed news → Holds (IsFurtherRun [] stops (done ++ news ∷ []))
  with_key keyed =
      let made = made_or_none stops news keyed in
      let puts = put holds.entries keyed.key (calls_of made.0) holds.sorted in
      let step : PutsFurther stops news (map_of holds.entries) (map_of puts.new) = inl (record { key = keyed.key; of_news = keyed.of_news; run = made.0; made = made.1; at = puts.at }) in
      record { entries = puts.new; sorted = puts.sorted; exactly = further_more stops done news (map_of holds.entries) (map_of puts.new) holds.exactly step }

  without_key : HasNoKey news → Holds (IsFurtherRun [] stops (done ++ news ∷ []))
  without_key no_key =
      let step : PutsFurther stops news (map_of holds.entries) (map_of holds.entries) = inr (no_key, λ key. refl) in
      record { entries = holds.entries; sorted = holds.sorted; exactly = further_more stops done news (map_of holds.entries) (map_of holds.entries) holds.exactly step }

all_further : (stops : List Stop) (done rest : List TripSaid) → Holds (IsFurtherRun [] stops done) → Holds (IsFurtherRun [] stops (done ++ rest))
all_further stops done [] holds = subst (λ (list : List TripSaid). Holds (IsFurtherRun [] stops list)) (sym (append-nil done)) holds
all_further stops done (news ∷ rest) holds =
    subst (λ (list : List TripSaid). Holds (IsFurtherRun [] stops list)) (append_assoc done (news ∷ []) rest)
    (all_further stops (done ++ news ∷ []) rest (one_further stops done news holds))

no_entries : AreSorted []
unfolding IsStrictlySortedBy
no_entries = tt

further : (stops : List Stop) (list : List TripSaid) → Holds (IsFurtherRun [] stops list)
further stops list = all_further stops [] list (record { entries = []; sorted = no_entries; exactly = no_further stops (map_of []) refl })

next_is_later : (done : List Run) (next : Run) (rest : List Run) → InKeyOrder (done ++ next ∷ rest) → IsLater done next
next_is_later done next rest up =
    let whole = done ++ next ∷ rest in
    let inside : length done < length whole = omega (arith, length-append done (next ∷ rest)) in
    subst (λ (runs : List Run). IsLater runs next) (take-append_seam done (next ∷ rest))
    (later_run whole (length done) next inside (sym (get_or-append_seam done next rest next)) up)

one_live : (stops : List Stop) (list : List TripSaid) (done : List Run) (next : Run) → IsLater done next → Holds (IsOfEither done stops list) → Holds (IsOfEither (done ++ next ∷ []) stops list)
one_live stops list done next later holds =
    let calls = live_calls_of next.calls (news_for next.key list) in
    let puts = put holds.entries next.key (Some calls) holds.sorted in
    record { entries = puts.new; sorted = puts.sorted; exactly = live_more done stops list next calls (map_of holds.entries) (map_of puts.new) later refl puts.at holds.exactly }

all_live : (stops : List Stop) (list : List TripSaid) (done rest : List Run) → InKeyOrder (done ++ rest) → Holds (IsOfEither done stops list) → Holds (IsOfEither (done ++ rest) stops list)
all_live stops list done [] up holds = subst (λ (runs : List Run). Holds (IsOfEither runs stops list)) (sym (append-nil done)) holds
all_live stops list done (next ∷ rest) up holds =
    let same = append_assoc done (next ∷ []) rest in
    subst (λ (runs : List Run). Holds (IsOfEither runs stops list)) same
    (all_live stops list (done ++ next ∷ []) rest (subst InKeyOrder (sym same) up) (one_live stops list done next (next_is_later done next rest up) holds))

-- a timetable has a list of live runs by any news
pub some_live : (runs : List Run) (stops : List Stop) (list : List TripSaid) → InKeyOrder runs → (live : List Run) × AreLiveRuns runs stops list live
some_live runs stops list up =
    let start = further stops list in
    let none : Holds (IsOfEither [] stops list) = record { entries = start.entries; sorted = start.sorted; exactly = none_put stops list (map_of start.entries) start.exactly } in
    let all = all_live stops list [] runs up none in
    let live = map run_of all.entries in
    (live, are_live runs stops list (map_of all.entries) live all.exactly (runs_in_order (map_of all.entries) live all.sorted refl) (runs_exactly (map_of all.entries) live all.sorted refl))

either_forward : (runs : List Run) (stops : List Stop) (list : List TripSaid) (run : Run) → All (λ (r : Run). InSequence r.calls) runs → IsLiveRun runs list run ⊎ IsFurtherRun runs stops list run → GoesForward run.calls
either_forward runs stops list run rise (inl live) =
    subst GoesForward (sym live.calls) (live_go_forward live.run.calls (news_for live.run.key list) (All-contains (λ (r : Run). InSequence r.calls) runs live.run rise live.of_timetable))
either_forward runs stops list run rise (inr further) = subst GoesForward (sym further.calls) (added_go_forward stops further.news.stops)

live_forward : (runs : List Run) (stops : List Stop) (list : List TripSaid) (live : List Run) → All (λ (r : Run). InSequence r.calls) runs → AreLiveRuns runs stops list live → All (λ (r : Run). GoesForward r.calls) live
live_forward runs stops list live rise are k d inside =
    let run = get_or live k d in
    either_forward runs stops list run rise ((are.exactly run).0 (k, inside, get_or_default live k run d inside))

-- a timetable has a list of connections by any news
pub some_connections : (runs : List Run) (stops : List Stop) (list : List TripSaid) → InKeyOrder runs → All (λ (r : Run). InSequence r.calls) runs
    → (live : List Run) × (AreLiveRuns runs stops list live × ((rows : List Connection) × AreConnectionsOf live rows))
some_connections runs stops list up rise =
    let some = some_live runs stops list up in
    let live = some.0 in
    let rows = in_strict_order departure_cmp departure_cmp_total (connections_of live) (untied_connections live some.1.in_order (in_sequence live (live_forward runs stops list live rise some.1))) in
    (live, (some.1, (rows.0, record { all = rows.1.0; in_order = rows.1.1 })))

pub some_rows : SomeListOfRows
some_rows store version up rise =
    let some = some_connections store.runs store.stops (news_of store version) up rise in
    (some.1.1.0, record { live = some.0; are_runs = some.1.0; are_connections = some.1.1.1 })
