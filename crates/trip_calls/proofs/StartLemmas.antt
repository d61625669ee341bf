-- The starts that rows of frequencies.txt give.
use Rattle.std.proofs.Common.{◌≡◌, ◌≢◌, ◌∙◌, ◌⊎◌, ◌↔◌, ℕ, ◌+◌, ◌-◌, ◌*◌, ◌<◌, ◌≤◌, ◌==◌, true, false, List, [], ◌∷◌, ◌++◌, Option, Some, None, ap, ap₂, append_assoc, arith, eqb, eqb-true, get_or, inl, inr, length, length-append, map, refl, subst, suc, sym, take, zero}
use Rattle.std.specs.List.{All, AllPairs, Any, Contains, dedup, range_with_len}
use Rattle.std.specs.List.Sorted.{IsPermutation, IsSorted}
use Rattle.std.specs.Ordering.{nat_cmp}
use Rattle.std.proofs.Math.Nat.{mul-le-mul_right}
use Rattle.std.proofs.lemmas.Bool.{cases_lt, false≢true}
use Rattle.std.proofs.lemmas.List.{append-nil, get_or-map, get_or_default, length-map, map_more, map_push, take_more}
use Rattle.std.proofs.lemmas.List.Elements.{All-filter, Contains-append_cases, Contains-append_left, Contains-append_right}
use Rattle.std.proofs.lemmas.List.FromFn.{get_or-map-range_with_len, length-map-range_with_len, map-range_with_len_more}
use Rattle.std.proofs.lemmas.List.Kept.{AllPairs-from_increasing, Contains-dedup_nat, Contains-from_dedup}
use Rattle.std.proofs.lemmas.List.Sorted.{Contains-permutation, IsPermutation-sym}
use Rattle.std.proofs.lemmas.Map.Keys.{IsStrictlyIncreasing-dedup}
use Rattle.std.proofs.lemmas.Slice.Eq.{bytes_eq-Decides}
use Rattle.lc_model.specs.Change.{is_same_id}
use Rattle.gtfs_tables.specs.Calendars.Spans.{AreSpans, IsSpan}
use Rattle.gtfs_tables.specs.declared.calendars.frequency.Frequency.{Frequency}
use Rattle.trip_calls.specs.Starts.{AreAllGiven, AreGiven, AreStarts, GainsStarts, GivesSoMany, HaveSameStarts, HaveStarts, IsStartOf, StartsAt, spans_of}
use Rattle.trip_calls.specs.declared.start.Start.{Start}
use Rattle.lc_model.proofs.ListLemmas.{All-from_contains, Contains-cases, Contains-filter, Contains-here, Contains-nil, IsKept-filter}

-- the first so many starts of a row
abbrev pub starts_upto : Frequency → ℕ → List ℕ
starts_upto f count = map (λ k. f.from + k * f.headway) (range_with_len 0 count)

-- The starts that were added are all that the row gives, since the next one is not before its end.
pub gained : (f : Frequency) (old new : List ℕ) (count next : ℕ) → new ≡ old ++ starts_upto f count → ((k : ℕ) → k < count → f.from + k * f.headway < f.to)
    → next ≡ f.from + count * f.headway → f.to ≤ next → GainsStarts f old new
gained f old new count next is before at_next past start = (
  λ h. elim (Contains-append_cases old (starts_upto f count) start (subst (λ (l : List ℕ). Contains l start) is h)) [
    | inl k ↦ inl k
    | inr k ↦ inr (given k)
  ],
  λ h. elim h [
    | inl k ↦ subst (λ (l : List ℕ). Contains l start) (sym is) (Contains-append_left old (starts_upto f count) start k)
    | inr s ↦ subst (λ (l : List ℕ). Contains l start) (sym is) (Contains-append_right old (starts_upto f count) start (there s))
  ],
)
  where
    given : Contains (starts_upto f count) start → StartsAt f start
    given (k, lt, at) =
        let inside : k < count = omega (arith, lt, length-map-range_with_len (λ k. f.from + k * f.headway) 0 count) in
        let same : start ≡ f.from + k * f.headway = sym at ∙ get_or-map-range_with_len (λ k. f.from + k * f.headway) 0 count k k start inside (omega arith) in
        let less = before k inside in
        record { count = k; is = same; before_end = omega (arith, same, less) }

    there : StartsAt f start → Contains (starts_upto f count) start
    there s = elim (cases_lt s.count count) [
      | inl lt ↦
          let size = length-map-range_with_len (λ k. f.from + k * f.headway) 0 count in
          (s.count, omega (arith, lt, size), get_or-map-range_with_len (λ k. f.from + k * f.headway) 0 count s.count s.count start lt (omega arith) ∙ sym s.is)
      | inr ge ↦
          let more : count * f.headway ≤ s.count * f.headway = mul-le-mul_right f.headway ge in
          absurd (omega (arith, more, s.is, s.before_end, at_next, past))
    ]

-- a row more
pub given_more : (rows : List Frequency) (i : ℕ) (f : Frequency) (old new : List ℕ) → i < length rows → f ≡ get_or rows i f → AreAllGiven (take i rows) old → GainsStarts f old new → AreAllGiven (take (i + 1) rows) new
given_more rows i f old new lt is so_far gains start = (
  λ h. elim ((gains start).0 h) [
    | inl k ↦ wider ((so_far start).0 k)
    | inr s ↦ subst (Any (λ (g : Frequency). StartsAt g start)) (sym whole) (last s)
  ],
  λ h. elim (parts (subst (Any (λ (g : Frequency). StartsAt g start)) whole h)) [
    | inl k ↦ (gains start).1 (inl ((so_far start).1 k))
    | inr s ↦ (gains start).1 (inr s)
  ],
)
  where
    whole : take (i + 1) rows ≡ take i rows ++ f ∷ []
    whole = take_more rows i f lt ∙ ap (λ (v : Frequency). take i rows ++ v ∷ []) (sym is)

    last : StartsAt f start → Any (λ (g : Frequency). StartsAt g start) (take i rows ++ f ∷ [])
    last s = let c = Contains-append_right (take i rows) (f ∷ []) f (Contains-here f []) in (c.0, f, c.1, c.2, s)

    wider : Any (λ (g : Frequency). StartsAt g start) (take i rows) → Any (λ (g : Frequency). StartsAt g start) (take (i + 1) rows)
    wider (k, g, inside, at, s) =
        let c = Contains-append_left (take i rows) (f ∷ []) g (k, inside, at) in
        subst (Any (λ (g : Frequency). StartsAt g start)) (sym whole) (c.0, g, c.1, c.2, s)

    parts : Any (λ (g : Frequency). StartsAt g start) (take i rows ++ f ∷ []) → Any (λ (g : Frequency). StartsAt g start) (take i rows) ⊎ StartsAt f start
    parts (k, g, inside, at, s) = elim (Contains-append_cases (take i rows) (f ∷ []) g (k, inside, at)) [
      | inl c ↦ inl (c.0, g, c.1, c.2, s)
      | inr c ↦ elim (Contains-cases f [] g c) [
        | inl e ↦ inr (subst (λ (v : Frequency). StartsAt v start) (sym e) s)
        | inr none ↦ absurd (Contains-nil g none)
      ]
    ]

pub given_none : (starts : List ℕ) (rows : List Frequency) → starts ≡ [] → AreAllGiven (take 0 rows) starts
given_none starts rows e start = (
  λ h. absurd (Contains-nil start (subst (λ (l : List ℕ). Contains l start) e h)),
  λ h. none rows h,
)
  where
    none : (rows : List Frequency) → Any (λ (g : Frequency). StartsAt g start) (take 0 rows) → Contains starts start
    none [] (k, g, inside, at, s) = absurd (omega (arith, inside))
    none (row ∷ rows) (k, g, inside, at, s) = absurd (omega (arith, inside))

-- a start that rows give is in the service day
pub given_in_day : (rows : List Frequency) (starts : List ℕ) → AreAllGiven rows starts → All (λ (f : Frequency). f.to < 360_000) rows → All (λ s. s < 360_000) starts
given_in_day rows starts given in_day =
    All-from_contains (λ s. s < 360_000) starts (λ s h. below s ((given s).0 h))
  where
    below : (s : ℕ) → Any (λ (f : Frequency). StartsAt f s) rows → s < 360_000
    below s (k, f, inside, at, starts_at) =
        let end : f.to < 360_000 = subst (λ (v : Frequency). v.to < 360_000) at (in_day k f inside) in
        omega (arith, end, starts_at.before_end)

abbrev pub seconds_of : List Start → List (Option ℕ)
seconds_of starts = map (λ (s : Start). s.seconds) starts

abbrev pub no_start : List (Option ℕ)
no_start = None ∷ []

-- no row is of the trip: there is the run without a start alone
pub without_rows : (frequencies : List Frequency) (trip : List ℕ) (starts : List Start) → spans_of frequencies trip ≡ [] → seconds_of starts ≡ no_start → AreStarts frequencies trip starts
without_rows frequencies trip starts none is = record { all = all; once = once starts is }
  where
    no_row : All (λ (f : Frequency). f.trip ≢ trip) frequencies
    no_row = All-from_contains (λ (f : Frequency). f.trip ≢ trip) frequencies (λ f h e.
        Contains-nil f (subst (λ (l : List Frequency). Contains l f) none (Contains-filter (λ (f : Frequency). is_same_id f.trip trip) frequencies f h ((bytes_eq-Decides f.trip trip).1 e))))

    found : (starts : List Start) (start : Option ℕ) → Any (λ (s : Start). s.seconds ≡ start) starts → Contains (seconds_of starts) start
    found starts start (k, s, inside, at, e) =
        let size = length-map starts (λ (s : Start). s.seconds) in
        (k, omega (arith, inside, size), get_or-map (λ (s : Start). s.seconds) starts k s start inside ∙ ap (λ (v : Start). v.seconds) at ∙ e)

    first : (starts : List Start) → seconds_of starts ≡ no_start → Any (λ (s : Start). s.seconds ≡ None) starts
    first [] e = cc
    first (s ∷ starts) e = let h : s.seconds ≡ None = cc in (0, s, omega arith, refl, h)

    none_of : (start : Option ℕ) → Contains no_start start → None ≡ start
    none_of start h = elim (Contains-cases None [] start h) [ inl e ↦ e | inr k ↦ absurd (Contains-nil start k) ]

    to : (start : Option ℕ) → None ≡ start → IsStartOf frequencies trip start
    to start e = subst (IsStartOf frequencies trip) e no_row

    from : (start : Option ℕ) → IsStartOf frequencies trip start → Any (λ (s : Start). s.seconds ≡ start) starts
    from None h = first starts is
    from (Some x) (k, f, inside, at, (trip_is, starts_at)) = absurd (no_row k f inside (ap (λ (v : Frequency). v.trip) at ∙ trip_is))

    all : (start : Option ℕ) → Any (λ (s : Start). s.seconds ≡ start) starts ↔ IsStartOf frequencies trip start
    all start = (λ h. to start (none_of start (subst (λ l. Contains l start) is (found starts start h))), λ h. from start h)

    once : (starts : List Start) → seconds_of starts ≡ no_start → AllPairs (λ (s t : Start). s.seconds ≢ t.seconds) starts
    once starts e i j d lt inside =
        let size : length starts ≡ 1 = sym (length-map starts (λ (s : Start). s.seconds)) ∙ ap length e in
        absurd (omega (arith, lt, inside, size))

-- rows are of the trip: the starts are those that they give
pub with_rows : (frequencies : List Frequency) (trip : List ℕ) (own : List Frequency) (given : List ℕ) (starts : List Start) → own ≡ spans_of frequencies trip → 0 < length own
    → AreGiven own given → seconds_of starts ≡ map Some given → AreStarts frequencies trip starts
with_rows frequencies trip own given starts own_is some are is = record { all = all; once = once }
  where
    size : length starts ≡ length given
    size = sym (length-map starts (λ (s : Start). s.seconds)) ∙ ap length is ∙ length-map given Some

    -- the start at a place is the one that the list has there
    at_place : (k : ℕ) (s : Start) (d : ℕ) → k < length starts → (get_or starts k s).seconds ≡ Some (get_or given k d)
    at_place k s d lt =
        sym (get_or-map (λ (s : Start). s.seconds) starts k s None lt) ∙ ap (λ l. get_or l k None) is ∙ get_or-map Some given k d None (omega (arith, lt, size))

    own_row : (f : Frequency) → Contains own f → (f.trip ≡ trip) × Contains frequencies f
    own_row f h =
        let kept = IsKept-filter (λ (f : Frequency). is_same_id f.trip trip) frequencies f (subst (λ (l : List Frequency). Contains l f) own_is h) in
        ((bytes_eq-Decides f.trip trip).0 kept.passes, kept.stands)

    own_of : (f : Frequency) → Contains frequencies f → f.trip ≡ trip → Contains own f
    own_of f h e = subst (λ (l : List Frequency). Contains l f) (sym own_is) (Contains-filter (λ (f : Frequency). is_same_id f.trip trip) frequencies f h ((bytes_eq-Decides f.trip trip).1 e))

    gives : (x : ℕ) → Contains given x → IsStartOf frequencies trip (Some x)
    gives x h =
        let a = (are.all x).0 h in
        let row = own_row a.1 (a.0, a.2, a.3) in
        let c = row.1 in
        (c.0, a.1, c.1, c.2, (row.0, a.4))

    to : (start : Option ℕ) → Any (λ (s : Start). s.seconds ≡ start) starts → IsStartOf frequencies trip start
    to start (k, s, inside, at, e) =
        let x = get_or given k 0 in
        let same : Some x ≡ start = sym (at_place k s 0 inside) ∙ ap (λ (v : Start). v.seconds) at ∙ e in
        let lt : k < length given = omega (arith, inside, size) in
        subst (IsStartOf frequencies trip) same (gives x (k, lt, get_or_default given k x 0 lt))

    first_row : (l : List Frequency) → 0 < length l → (f : Frequency) × Contains l f
    first_row [] lt = absurd (omega (arith, lt))
    first_row (f ∷ l) lt = (f, Contains-here f l)

    default : (l : List Start) → 0 < length l → Start
    default [] lt = absurd (omega (arith, lt))
    default (s ∷ l) lt = s

    from : (start : Option ℕ) → IsStartOf frequencies trip start → Any (λ (s : Start). s.seconds ≡ start) starts
    from None none =
        let row = first_row own some in
        let kept = own_row row.0 row.1 in
        let c = kept.1 in
        absurd (none c.0 row.0 c.1 (ap (λ (v : Frequency). v.trip) c.2 ∙ kept.0))
    from (Some x) (k, f, inside, at, (trip_is, starts_at)) =
        let c = own_of f (k, inside, at) trip_is in
        let stands = (are.all x).1 (c.0, f, c.1, c.2, starts_at) in
        let place = stands.0 in
        let lt : place < length starts = omega (arith, stands.1, size) in
        let s = default starts (omega (arith, lt)) in
        let item = get_or starts place s in
        (place, item, lt, get_or_default starts place item s lt, at_place place s x lt ∙ ap Some stands.2)

    all : (start : Option ℕ) → Any (λ (s : Start). s.seconds ≡ start) starts ↔ IsStartOf frequencies trip start
    all start = (λ h. to start h, λ h. from start h)

    some_is : (x y : ℕ) → Some x ≡ Some y → x ≡ y
    some_is x y e = cc

    once : AllPairs (λ (s t : Start). s.seconds ≢ t.seconds) starts
    once i j d lt inside e =
        let before : i < length starts = omega (arith, lt, inside) in
        let same : get_or given i 0 ≡ get_or given j 0 = some_is _ _ (sym (at_place i d 0 before) ∙ e ∙ at_place j d 0 inside) in
        let less = are.once i j 0 lt (omega (arith, inside, size)) in
        omega (arith, same, less)

-- how far the starts of a row are made
pub record AreGrowing (f : Frequency) (old now : List ℕ) (start : ℕ) : Type 0 where
  pub added : now ≡ old ++ starts_upto f (length now - length old)
  pub grown : length old ≤ length now
  pub before : (k : ℕ) → k < length now - length old → f.from + k * f.headway < f.to
  pub next : start ≡ f.from + (length now - length old) * f.headway

pub growing_none : (f : Frequency) (old : List ℕ) (start : ℕ) → start ≡ f.from → AreGrowing f old old start
growing_none f old start e =
    let none : length old - length old ≡ 0 = omega arith in
    record {
      added = sym (append-nil old) ∙ sym (ap (λ n. old ++ starts_upto f n) none);
      grown = omega arith;
      before = λ k lt. absurd (omega (arith, lt));
      next = let zero_is : (length old - length old) * f.headway ≡ 0 = ap (λ n. n * f.headway) none ∙ omega arith in omega (arith, e, zero_is);
    }

pub growing_more : (f : Frequency) (old now new : List ℕ) (start headway : ℕ) → AreGrowing f old now start → new ≡ now ++ start ∷ [] → start < f.to → headway ≡ f.headway → AreGrowing f old new (start + headway)
growing_more f old now new start headway so_far grown lt same =
    let n = length now - length old in
    let size : length new ≡ length now + 1 = ap length grown ∙ length-append now (start ∷ []) in
    let count : length new - length old ≡ n + 1 = omega (arith, size, so_far.grown) in
    let times : (length new - length old) * f.headway ≡ n * f.headway + f.headway = ap (λ m. m * f.headway) count ∙ omega arith in
    record {
      added = grown ∙ ap₂ (λ (a : List ℕ) (b : ℕ). a ++ b ∷ []) so_far.added so_far.next ∙ append_assoc old (starts_upto f n) ((f.from + n * f.headway) ∷ [])
          ∙ ap (λ (l : List ℕ). old ++ l) (sym (map-range_with_len_more (λ k. f.from + k * f.headway) 0 n n (omega arith))) ∙ sym (ap (λ m. old ++ starts_upto f m) count);
      grown = omega (arith, size, so_far.grown);
      before = λ k inside. elim (cases_lt k n) [
        | inl less ↦ so_far.before k less
        | inr ge ↦
            let is : k ≡ n = omega (arith, inside, count, ge) in
            let product : k * f.headway ≡ n * f.headway = ap (λ m. m * f.headway) is in
            omega (arith, product, so_far.next, lt)
      ];
      next = omega (arith, times, so_far.next, same);
    }

pub growing_all : (f : Frequency) (old now : List ℕ) (start : ℕ) → AreGrowing f old now start → f.to ≤ start → GainsStarts f old now
growing_all f old now start so_far past = gained f old now (length now - length old) start so_far.added so_far.before so_far.next past

-- a start more of the list
pub given_push : (old now new : List Start) (s : Start) (given : List ℕ) (i : ℕ) → new ≡ now ++ s ∷ [] → s.seconds ≡ Some (get_or given i 0) → i < length given
    → seconds_of now ≡ seconds_of old ++ map Some (take i given) → seconds_of new ≡ seconds_of old ++ map Some (take (i + 1) given)
given_push old now new s given i grown is lt so_far =
    ap seconds_of grown ∙ map_push (λ (s : Start). s.seconds) now s ∙ ap₂ (λ (a : List (Option ℕ)) (b : Option ℕ). a ++ b ∷ []) so_far is
    ∙ append_assoc (seconds_of old) (map Some (take i given)) (Some (get_or given i 0) ∷ []) ∙ ap (λ (l : List (Option ℕ)). seconds_of old ++ l) (sym (map_more Some given i 0 lt))

-- sorted, and each once, they are the same starts
pub left_same : (old sorted new : List ℕ) → IsPermutation old sorted → new ≡ dedup eqb sorted → HaveSameStarts old new
left_same old sorted new moved is s = (
  λ h. Contains-permutation sorted old s (IsPermutation-sym old sorted moved) (Contains-from_dedup eqb sorted s (subst (λ (l : List ℕ). Contains l s) is h)),
  λ h. subst (λ (l : List ℕ). Contains l s) (sym is) (Contains-dedup_nat sorted s (Contains-permutation old sorted s moved h)),
)

pub left_once : (sorted new : List ℕ) → IsSorted nat_cmp sorted → new ≡ dedup eqb sorted → AllPairs (λ (s t : ℕ). s < t) new
left_once sorted new up is = subst (λ (l : List ℕ). AllPairs (λ s t. s < t) l) (sym is) (AllPairs-from_increasing (dedup eqb sorted) (IsStrictlyIncreasing-dedup sorted up))

pub given_same : (rows : List Frequency) (old new : List ℕ) → HaveSameStarts old new → AreAllGiven rows old → AreAllGiven rows new
given_same rows old new same given s = (λ h. (given s).0 ((same s).0 h), λ h. (same s).1 ((given s).1 h))

-- the quotient, rounded up, counts the starts of a row
pub count_is : (f : Frequency) (seconds count : ℕ) → seconds ≡ f.to - f.from → (seconds ≤ count * f.headway) × (count * f.headway < seconds + f.headway) → GivesSoMany f count
count_is f seconds count is bounds =
    let above : seconds ≤ count * f.headway = bounds.0 in
    let below : count * f.headway < seconds + f.headway = bounds.1 in
    record {
      before_end = λ k lt.
          let next : k + 1 ≤ count = omega arith in
          let more : (k + 1) * f.headway ≤ count * f.headway = mul-le-mul_right f.headway next in
          let step : (k + 1) * f.headway ≡ k * f.headway + f.headway = omega arith in
          omega (arith, more, step, below, is);
      past = omega (arith, above, is);
    }

-- the starts of a row are there once each
upto_once : (f : Frequency) (count : ℕ) → 0 < f.headway → AllPairs (λ (s t : ℕ). s < t) (starts_upto f count)
upto_once f count apart i j d lt inside =
    let size = length-map-range_with_len (λ k. f.from + k * f.headway) 0 count in
    let at_j : j < count = omega (arith, inside, size) in
    let at_i : i < count = omega (arith, at_j, lt) in
    let first : get_or (starts_upto f count) i d ≡ f.from + i * f.headway = get_or-map-range_with_len (λ k. f.from + k * f.headway) 0 count i i d at_i (omega arith) in
    let second : get_or (starts_upto f count) j d ≡ f.from + j * f.headway = get_or-map-range_with_len (λ k. f.from + k * f.headway) 0 count j j d at_j (omega arith) in
    let next : i + 1 ≤ j = omega (arith, lt) in
    let more : (i + 1) * f.headway ≤ j * f.headway = mul-le-mul_right f.headway next in
    let step : (i + 1) * f.headway ≡ i * f.headway + f.headway = omega arith in
    omega (arith, first, second, more, step, apart)

row_gives : (f : Frequency) (count : ℕ) → 0 < f.headway → GivesSoMany f count → AreGiven (f ∷ []) (starts_upto f count)
row_gives f count apart gives = record {
  all = given_more (f ∷ []) 0 f [] (starts_upto f count) (omega arith) refl (given_none [] (f ∷ []) refl)
      (gained f [] (starts_upto f count) count (f.from + count * f.headway) refl gives.before_end refl gives.past);
  once = upto_once f count apart;
}

-- seconds of a service day as starts
starts_from : (given : List ℕ) → All (λ s. s < 360_000) given → List Start
starts_from [] in_day = []
starts_from (s ∷ given) in_day =
    let below : s < 360_000 = in_day 0 s (omega arith) in
    record { seconds = Some s; in_range = λ x e. let same : s ≡ x = cc in omega (arith, same, below) } ∷ starts_from given (λ k d lt. in_day (suc k) d (omega arith))

seconds_of-starts_from : (given : List ℕ) (in_day : All (λ s. s < 360_000) given) → seconds_of (starts_from given in_day) ≡ map Some given
unfolding starts_from
seconds_of-starts_from [] in_day = refl
seconds_of-starts_from (s ∷ given) in_day = ap (λ (l : List (Option ℕ)). Some s ∷ l) (seconds_of-starts_from given (λ k d lt. in_day (suc k) d (omega arith)))

-- a row that is alone is a span
pub alone_is_span : (spans own : List Frequency) (trip : List ℕ) (f : Frequency) → AreSpans spans → own ≡ spans_of spans trip → 0 < length own → f ≡ get_or own 0 f → IsSpan f
alone_is_span spans own trip f are own_is there is =
    let all : AreSpans own = subst AreSpans (sym own_is) (All-filter (λ (g : Frequency). is_same_id g.trip trip) IsSpan spans are) in
    subst IsSpan (sym is) (all 0 f there)

-- a trip with one row has as many starts as the row gives
pub one_row : (frequencies : List Frequency) (trip : List ℕ) (f : Frequency) (count : ℕ) → f ∷ [] ≡ spans_of frequencies trip → IsSpan f → GivesSoMany f count → HaveStarts frequencies trip count
one_row frequencies trip f count own span gives =
    let given = starts_upto f count in
    let are = row_gives f count span.apart gives in
    let in_day = given_in_day (f ∷ []) given are.all (only f span) in
    let seconds = seconds_of-starts_from given in_day in
    record {
      starts = starts_from given in_day;
      are = with_rows frequencies trip (f ∷ []) given (starts_from given in_day) own (omega arith) are seconds;
      counted = sym (sym (length-map (starts_from given in_day) (λ (s : Start). s.seconds)) ∙ ap length seconds ∙ length-map given Some ∙ length-map-range_with_len (λ k. f.from + k * f.headway) 0 count);
    }
  where
    only : (f : Frequency) → IsSpan f → All (λ (g : Frequency). g.to < 360_000) (f ∷ [])
    only f span zero d lt = span.to_in_day
    only f span (suc k) d lt = absurd (omega (arith, lt))

none_not_some : (x : ℕ) → (◌≡◌ {A = Option ℕ} None (Some x)) → ⊥
none_not_some x e = cc

-- and one without a row has one
pub no_rows : (frequencies : List Frequency) (trip : List ℕ) → spans_of frequencies trip ≡ [] → HaveStarts frequencies trip 1
no_rows frequencies trip none =
    let starts : List Start = record { seconds = None; in_range = λ x e. absurd (none_not_some x e) } ∷ [] in
    record { starts = starts; are = without_rows frequencies trip starts none refl; counted = refl }

pub one_there : {X : Type 0} (xs : List X) (x : X) → length xs ≡ 1 → x ≡ get_or xs 0 x → x ∷ [] ≡ xs
one_there [] x size is = absurd (omega (arith, size))
one_there (y ∷ []) x size is = ap (λ z. z ∷ []) is
one_there (y ∷ z ∷ xs) x size is = absurd (omega (arith, size))

pub empty_is : {X : Type 0} (xs : List X) → (length xs == 0) ≡ true → xs ≡ []
empty_is [] h = refl
empty_is (x ∷ xs) h = let none : length (x ∷ xs) ≡ 0 = eqb-true (length (x ∷ xs)) 0 h in absurd (omega (arith, none))

pub some_there : {X : Type 0} (xs : List X) → (length xs == 0) ≡ false → 0 < length xs
some_there [] h = absurd (false≢true (sym h))
some_there (x ∷ xs) h = omega arith

-- the run without a start alone
pub none_pushed : (now new : List Start) (s : Start) → new ≡ now ++ s ∷ [] → now ≡ [] → s.seconds ≡ None → seconds_of new ≡ no_start
none_pushed now new s grown empty none = ap seconds_of (grown ∙ ap (λ (l : List Start). l ++ s ∷ []) empty) ∙ ap (λ (o : Option ℕ). o ∷ []) none
