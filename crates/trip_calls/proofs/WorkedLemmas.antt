-- The values worked out by hand are those of the definitions.
use Rattle.std.proofs.Common.{◌≡◌, ◌≢◌, ℕ, ◌+◌, ◌*◌, ◌<◌, List, Some, ap, arith, codes, get_or, length, lit<, refl, subst, suc, sym, zero}
use Rattle.gtfs_tables.specs.declared.calendars.frequency.Frequency.{Frequency}
use Rattle.trip_calls.specs.Starts.{IsStartOf, StartsTrip}
use Rattle.trip_calls.specs.Worked.{WorkedStarts, WorkedTimes, each_20_minutes}

pub worked_times : WorkedTimes
worked_times = record { second_arrives = refl; second_departs = refl; third_arrives = refl; third_departs = refl; last_departs = refl }

abbrev only : Frequency
only = record { trip = codes "T"; from = 21_600; to = 25_200; headway = 1_200 }

starts_at : (start count : ℕ) → start ≡ 21_600 + count * 1_200 → start < 25_200 → IsStartOf each_20_minutes (codes "T") (Some start)
starts_at start count is before = (0, only, lit< tt, refl, (refl, record { count = count; is = is; before_end = before }))

-- a row of the list is the only one
starts_by : (trip : List ℕ) (start : ℕ) → IsStartOf each_20_minutes trip (Some start) → StartsTrip trip start only
starts_by trip start (zero, f, lt, at, starts) = subst (StartsTrip trip start) (sym at) starts
starts_by trip start (suc k, f, lt, at, starts) = absurd (omega (arith, lt))

apart : codes "T" ≢ codes "U"
apart e = let same : 84 ≡ 85 = ap (λ (l : List ℕ). get_or l 0 0) e in absurd (omega (arith, same))

pub worked_starts : WorkedStarts
worked_starts = record {
  first = starts_at 21_600 0 refl (lit< tt);
  second = starts_at 22_800 1 refl (lit< tt);
  third = starts_at 24_000 2 refl (lit< tt);
  not_at_the_end = λ h. let s = (starts_by (codes "T") 25_200 h).1 in absurd (omega (arith, s.before_end));
  not_between = λ h. let s = (starts_by (codes "T") 22_801 h).1 in absurd (omega (arith, s.is));
  not_without = λ h. h 0 only (lit< tt) refl;
  other_without = λ k d lt e. none k d lt e;
  other_not_with = λ h. apart (starts_by (codes "U") 21_600 h).0;
}
  where
    none : (k : ℕ) (d : Frequency) → k < length each_20_minutes → (get_or each_20_minutes k d).trip ≡ codes "U" → ⊥
    none zero d lt e = apart e
    none (suc k) d lt e = absurd (omega (arith, lt))
