-- The nearest rows with a time before and after a place.
use Rattle.std.proofs.Common.{◌≡◌, ◌∙◌, ℕ, ◌+◌, ◌-◌, ◌<◌, ◌≤◌, Bool, true, false, cond, not, List, [], ◌∷◌, ap, arith, drop, inl, inr, length, refl, subst, suc, sym, zero}
use Rattle.std.specs.List.{position_or_len}
use Rattle.std.specs.Option.{option_map_or}
use Rattle.std.proofs.lemmas.Bool.{cases_lt, false≢true}
use Rattle.std.proofs.lemmas.Option.{slice_get-get_or}
use Rattle.gtfs_tables.specs.Trips.Timely.{AreTimelyRows, is_timed}
use Rattle.gtfs_tables.specs.declared.trips.stop_times.StopTime.{StopTime}
use Rattle.trip_calls.specs.BlankTimes.{is_timed_at, timed_after, timed_before}
use Rattle.trip_calls.specs.Laws.{BlankRowsLieBetween}

-- the first place from one on whose row has a time
record IsFirst (rows : List StopTime) (from at : ℕ) : Type 0 where
  pub not_before : from ≤ at
  pub timed : is_timed_at rows at ≡ true
  pub blank : (k : ℕ) → from ≤ k → k < at → is_timed_at rows k ≡ false

abbrev first_from : List StopTime → ℕ → ℕ
first_from rows from = from + position_or_len is_timed (drop from rows)

-- one row more in front
one_more : (row : StopTime) (rows : List StopTime) (from at : ℕ) → IsFirst rows from at → IsFirst (row ∷ rows) (suc from) (suc at)
one_more row rows from at h = record { not_before = omega (arith, h.not_before); timed = h.timed; blank = later }
  where
    later : (k : ℕ) → suc from ≤ k → k < suc at → is_timed_at (row ∷ rows) k ≡ false
    later zero le lt = absurd (omega (arith, le))
    later (suc k) le lt = h.blank k (omega (arith, le)) (omega (arith, lt))

blank_first : (row : StopTime) (rows : List StopTime) (at : ℕ) → is_timed row ≡ false → IsFirst rows 0 at → IsFirst (row ∷ rows) 0 (suc at)
blank_first row rows at none h = record { not_before = omega arith; timed = h.timed; blank = later }
  where
    later : (k : ℕ) → 0 ≤ k → k < suc at → is_timed_at (row ∷ rows) k ≡ false
    later zero le lt = none
    later (suc k) le lt = h.blank k (omega arith) (omega (arith, lt))

first_is : (rows : List StopTime) (from at : ℕ) → from ≤ at → is_timed_at rows at ≡ true → IsFirst rows from (first_from rows from)
first_is [] from at le timed = absurd (false≢true timed)
first_is (row ∷ rows) zero at le timed = by_test (is_timed row) refl at timed (λ k t. first_is rows 0 k (omega arith) t)
  where
    by_test : (b : Bool) → is_timed row ≡ b → (at : ℕ) → is_timed_at (row ∷ rows) at ≡ true → ((k : ℕ) → is_timed_at rows k ≡ true → IsFirst rows 0 (first_from rows 0))
        → IsFirst (row ∷ rows) 0 (first_from (row ∷ rows) 0)
    by_test true e at t later =
        let here : first_from (row ∷ rows) 0 ≡ 0 = ap (λ b. 0 + cond (not b) (1 + position_or_len is_timed rows) 0) e in
        subst (IsFirst (row ∷ rows) 0) (sym here) (record { not_before = omega arith; timed = e; blank = λ k le lt. absurd (omega (arith, lt)) })
    by_test false e zero t later = absurd (false≢true (sym e ∙ t))
    by_test false e (suc at) t later =
        let count = position_or_len is_timed rows in
        let there : first_from (row ∷ rows) 0 ≡ 0 + (1 + count) = ap (λ b. 0 + cond (not b) (1 + count) 0) e in
        let same : suc (0 + count) ≡ first_from (row ∷ rows) 0 = omega (arith, there) in
        subst (IsFirst (row ∷ rows) 0) same (blank_first row rows (0 + count) e (later at t))
first_is (row ∷ rows) (suc from) zero le timed = absurd (omega (arith, le))
first_is (row ∷ rows) (suc from) (suc at) le timed =
    let count = position_or_len is_timed (drop from rows) in
    let same : suc (from + count) ≡ suc from + count = omega arith in
    subst (IsFirst (row ∷ rows) (suc from)) same (one_more row rows from (from + count) (first_is rows from at (omega (arith, le)) timed))

-- the first is not after a row with a time
first_upto : (rows : List StopTime) (from first at : ℕ) → IsFirst rows from first → from ≤ at → is_timed_at rows at ≡ true → first ≤ at
first_upto rows from first at h le timed = elim (cases_lt at first) [
  | inl lt ↦ absurd (false≢true (sym (h.blank at le lt) ∙ timed))
  | inr ge ↦ ge
]

-- the nearest row with a time after a place
pub after_is : (rows : List StopTime) (place after : ℕ) → place < after → is_timed_at rows after ≡ true → ((k : ℕ) → place < k → k < after → is_timed_at rows k ≡ false) → timed_after rows place ≡ after
after_is rows place after lt timed blank =
    let h = first_is rows (place + 1) after (omega (arith, lt)) timed in
    let le = first_upto rows (place + 1) (timed_after rows place) after h (omega (arith, lt)) timed in
    elim (cases_lt (timed_after rows place) after) [
      | inl less ↦ absurd (false≢true (sym (blank (timed_after rows place) (omega (arith, h.not_before)) less) ∙ h.timed))
      | inr ge ↦ omega (arith, le, ge)
    ]

-- and before it
pub before_is : (rows : List StopTime) (before place : ℕ) → before < place → is_timed_at rows before ≡ true → ((k : ℕ) → before < k → k < place → is_timed_at rows k ≡ false) → timed_before rows place ≡ before
before_is rows before zero lt timed blank = absurd (omega (arith, lt))
before_is rows before (suc place) lt timed blank = elim (cases_lt before place) [
  | inl less ↦
      ap (λ b. cond b place (timed_before rows place)) (blank place less (omega arith))
      ∙ before_is rows before place less timed (λ k low high. blank k low (omega (arith, high)))
  | inr ge ↦
      let same : before ≡ place = omega (arith, lt, ge) in
      ap (λ b. cond b place (timed_before rows place)) (sym (ap (is_timed_at rows) same) ∙ timed) ∙ sym same
]

record IsBefore (rows : List StopTime) (place before : ℕ) : Type 0 where
  pub less : before < place
  pub timed : is_timed_at rows before ≡ true
  pub blank : (k : ℕ) → before < k → k < place → is_timed_at rows k ≡ false

has_before : (rows : List StopTime) (place : ℕ) → is_timed_at rows 0 ≡ true → 0 < place → IsBefore rows place (timed_before rows place)
has_before rows zero first lt = absurd (omega (arith, lt))
has_before rows (suc place) first lt = by_test (is_timed_at rows place) refl (λ less. has_before rows place first less)
  where
    by_test : (b : Bool) → is_timed_at rows place ≡ b → (0 < place → IsBefore rows place (timed_before rows place)) → IsBefore rows (suc place) (timed_before rows (suc place))
    by_test true e later =
        let here : timed_before rows (suc place) ≡ place = ap (λ b. cond b place (timed_before rows place)) e in
        subst (IsBefore rows (suc place)) (sym here) (record { less = omega arith; timed = e; blank = λ k low high. absurd (omega (arith, low, high)) })
    by_test false e later =
        let there : timed_before rows (suc place) ≡ timed_before rows place = ap (λ b. cond b place (timed_before rows place)) e in
        let positive : 0 < place = elim (cases_lt 0 place) [
          | inl less ↦ less
          | inr ge ↦ let none : place ≡ 0 = omega (arith, ge) in absurd (false≢true (sym e ∙ ap (is_timed_at rows) none ∙ first))
        ] in
        let h = later positive in
        subst (IsBefore rows (suc place)) (sym there) (record {
          less = omega (arith, h.less);
          timed = h.timed;
          blank = λ k low high. elim (cases_lt k place) [
            | inl less ↦ h.blank k low less
            | inr ge ↦ let same : k ≡ place = omega (arith, high, ge) in ap (is_timed_at rows) same ∙ e
          ];
        })

-- the ends of the rows of a trip have times
pub first_timed : (rows : List StopTime) → AreTimelyRows rows → 0 < length rows → is_timed_at rows 0 ≡ true
first_timed [] timely lt = absurd (omega (arith, lt))
first_timed (row ∷ rows) timely lt = timely.first_timed row refl

pub last_timed : (rows : List StopTime) → AreTimelyRows rows → 0 < length rows → is_timed_at rows (length rows - 1) ≡ true
last_timed [] timely lt = absurd (omega (arith, lt))
last_timed (row ∷ rows) timely lt =
    let all = row ∷ rows in
    let at = slice_get-get_or all (length all - 1) row (omega arith) in
    ap (λ o. option_map_or is_timed o false) at ∙ timely.last_timed _ at

timed_within : (rows : List StopTime) (place : ℕ) → is_timed_at rows place ≡ true → place < length rows
timed_within [] place h = absurd (false≢true h)
timed_within (row ∷ rows) zero h = omega arith
timed_within (row ∷ rows) (suc place) h = let r = timed_within rows place h in omega (arith, r)

pub lie_between : BlankRowsLieBetween
lie_between rows place timely lt none =
    let any : 0 < length rows = omega (arith, lt) in
    let first = first_timed rows timely any in
    let last = last_timed rows timely any in
    let positive : 0 < place = elim (cases_lt 0 place) [
      | inl less ↦ less
      | inr ge ↦ let zero_is : place ≡ 0 = omega (arith, ge) in absurd (false≢true (sym none ∙ ap (is_timed_at rows) zero_is ∙ first))
    ] in
    let inner : place < length rows - 1 = elim (cases_lt place (length rows - 1)) [
      | inl less ↦ less
      | inr ge ↦ let same : place ≡ length rows - 1 = omega (arith, lt, ge) in absurd (false≢true (sym none ∙ ap (is_timed_at rows) same ∙ last))
    ] in
    let before = has_before rows place first positive in
    let after = first_is rows (place + 1) (length rows - 1) (omega (arith, inner)) last in
    record {
      is_before = before.less;
      is_after = omega (arith, after.not_before);
      there = timed_within rows (timed_after rows place) after.timed;
      before_timed = before.timed;
      after_timed = after.timed;
      blank = λ k low high. elim (cases_lt k place) [
        | inl less ↦ before.blank k low less
        | inr ge ↦ elim (cases_lt place k) [
          | inl more ↦ after.blank k (omega (arith, more)) high
          | inr le ↦ let same : k ≡ place = omega (arith, ge, le) in ap (is_timed_at rows) same ∙ none
        ]
      ];
    }
