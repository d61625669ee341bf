-- A date on which runs are planned has an anchor in every zone, far from both ends of the moments.
use Rattle.std.proofs.Common.{◌≡◌, ℕ, ℤ, pos, negsuc, ◌+◌, ◌<◌, ◌≤◌, ◌+ℤ◌, ◌-ℤ◌, ◌*ℤ◌, ◌≤ℤ◌, Some, ap, arith, refl}
use Rattle.std.proofs.lemmas.Bool.{lt-ltb}
use Rattle.jiff_core.specs.DateTime.{civil_seconds}
use Rattle.jiff_core.specs.Timestamp.{IsOffsetSeconds}
use Rattle.jiff_core.specs.declared.civil.datetime.DateTime.{DateTime}
use Rattle.jiff_core.proofs.SignedLemmas.{signed_arith}
use Rattle.jiff_tz.specs.Ambiguous.{compatible_offset}
use Rattle.jiff_tz.specs.PosixRule as Rule
use Rattle.jiff_tz.specs.Tzif as Table
use Rattle.lc_model.specs.declared.date.ServiceDate.{ServiceDate}
use Rattle.lc_time.specs.Zone.{anchor_of, moment_at, noon_of, offset_shown, second_shown}
use Rattle.lc_time.specs.declared.zone.Zone.{Zone}
use Rattle.lc_time.specs.declared.zone.Zone.TheVariants.{Utc, Posix, File}
use Rattle.service_days.specs.Days.{day_number}
use Rattle.trip_calls.specs.Plannable.{IsPlannable}
use Rattle.trip_calls.specs.TripRuns.{HasMoments}

-- a clock is ahead of UTC, or late, by less than 26 hours
offset_range : (zone : Zone) (shown : DateTime) → IsOffsetSeconds (offset_shown zone shown)
unfolding offset_shown
offset_range Utc shown = (omega (arith, signed_arith), omega (arith, signed_arith))
offset_range (Posix rule) shown = (compatible_offset (Rule.ambiguous_at rule shown)).in_range
offset_range (File table) shown = (compatible_offset (Table.ambiguous_at table shown)).in_range

-- the anchor of the date is a moment from which times are counted
pub record IsAnchored (zone : Zone) (date : ServiceDate) : Type 0 where
  pub anchor : ℕ
  pub is : anchor_of zone date ≡ Some anchor
  pub in_range : HasMoments anchor

record IsMoment (z : ℤ) : Type 0 where
  pub moment : ℕ
  pub is : moment_at z ≡ Some moment
  pub in_range : HasMoments moment

at_moment : (z : ℤ) → pos 1 ≤ℤ z → z ≤ℤ pos 253_401_408_000 → IsMoment z
at_moment (pos m) low high =
    let room : m + 720_000 ≤ 253_402_128_000 = omega (arith, signed_arith) in
    let lt : m < 253_402_128_000 = omega arith in
    record { moment = m; is = rw (lt-ltb _ _ lt) refl; in_range = room }
at_moment (negsuc m) low high = absurd (omega (arith, signed_arith))

noon_seconds : (date : ServiceDate) → civil_seconds (noon_of date) ≡ day_number date *ℤ pos 86_400 +ℤ pos 43_200
unfolding civil_seconds
noon_seconds date = refl

pub anchored : (zone : Zone) (date : ServiceDate) → IsPlannable date → IsAnchored zone date
anchored zone date planned =
    let offset : ℤ = offset_shown zone (noon_of date) in
    let n : ℤ = day_number date in
    let z : ℤ = second_shown zone (noon_of date) -ℤ pos 43_200 in
    let is : z ≡ n *ℤ pos 86_400 +ℤ pos 43_200 -ℤ offset -ℤ pos 43_200 = ap (λ (v : ℤ). v -ℤ offset -ℤ pos 43_200) (noon_seconds date) in
    let range = offset_range zone (noon_of date) in
    let low : pos 1 ≤ℤ z = omega (arith, signed_arith, range.0, range.1, planned.not_before, planned.not_after) in
    let high : z ≤ℤ pos 253_401_408_000 = omega (arith, signed_arith, range.0, range.1, planned.not_before, planned.not_after) in
    let m = at_moment z low high in
    record { anchor = m.moment; is = m.is; in_range = m.in_range }
