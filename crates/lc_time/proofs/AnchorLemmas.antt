-- Anchors, from the instant that `jiff` gives.
use Rattle.std.proofs.Common.{◌≡◌, ℕ, ℤ, pos, negsuc, ◌<◌, ◌-ℤ◌, Option, None, refl, ap, ◌∙◌, inl, inr, arith}
use Rattle.std.proofs.Props.{props}
use Rattle.std.proofs.lemmas.Bool.{cases_lt, le-ltb}
use Rattle.jiff_core.specs.DateTime.{civil_nanos, civil_seconds}
use Rattle.jiff_core.specs.Timestamp.{IsTimestampNanos, nanos_of_seconds}
use Rattle.jiff_core.specs.declared.civil.datetime.DateTime.{DateTime}
use Rattle.jiff_core.specs.declared.civil.time.Time.{Time}
use Rattle.jiff_core.proofs.DateTimeLemmas.{civil_nanos-civil_seconds}
use Rattle.jiff_core.proofs.SignedLemmas.{signed_arith}
use Rattle.jiff_tz.proofs.ZoneTheorems.{floor_shift}
use Rattle.jiff_tz.specs.Tzif.{floor_second}
use Rattle.lc_model.specs.declared.date.ServiceDate.{ServiceDate}
use Rattle.lc_time.specs.Zone.{anchor_of, moment_at, noon, noon_of, offset_shown, second_shown}
use Rattle.lc_time.specs.declared.zone.Zone.{Zone}

abbrev at_noon : 12 < 24 → 0 < 60 → 0 < 60 → 0 < 1_000_000_000 → Time
at_noon p q r s = record {
  hour = 12;
  minute = 0;
  second = 0;
  subsec_nanosecond = 0;
  hour_in = p;
  minute_in = q;
  second_in = r;
  subsec_in = s;
}

lt_prop : (m n : ℕ) → IsProp (m < n)
lt_prop m n = hlevel props

pub is_noon : (p : 12 < 24) (q r : 0 < 60) (s : 0 < 1_000_000_000) → at_noon p q r s ≡ noon
is_noon p q r s =
    ap (λ v. at_noon v q r s) (lt_prop 12 24 p noon.hour_in) ∙ ap (λ v. at_noon noon.hour_in v r s) (lt_prop 0 60 q noon.minute_in)
    ∙ ap (λ v. at_noon noon.hour_in noon.minute_in v s) (lt_prop 0 60 r noon.second_in)
    ∙ ap (λ v. at_noon noon.hour_in noon.minute_in noon.second_in v) (lt_prop 0 1_000_000_000 s noon.subsec_in)

-- the second that the clock shows at noon, where there is such an instant
pub anchor_is : (zone : Zone) (date : ServiceDate) (shown : DateTime) (offset n : ℤ) (r : Option ℕ) → shown ≡ noon_of date → offset ≡ offset_shown zone shown → n ≡ civil_nanos shown -ℤ nanos_of_seconds offset → r ≡ moment_at (floor_second n -ℤ pos 43_200) → r ≡ anchor_of zone date
anchor_is zone date shown offset n r is at instant e =
    e ∙ ap (λ (v : ℤ). moment_at (v -ℤ pos 43_200)) (ap floor_second instant ∙ floor_shift shown offset ∙ ap (λ (v : ℤ). civil_seconds shown -ℤ v) at ∙ ap (λ (v : DateTime). second_shown zone v) is)

-- a second that is too far off for an instant is no moment
far_off : (z s : ℤ) → z ≡ s -ℤ pos 43_200 → (IsTimestampNanos (nanos_of_seconds s) → ⊥) → None ≡ moment_at z
far_off (negsuc n) s e far = refl
far_off (pos n) s e far = elim (cases_lt n 253_402_128_000) [
  | inl lt ↦ absurd (far (omega (arith, signed_arith), omega (arith, signed_arith)))
  | inr ge ↦ rw (le-ltb _ _ ge) refl
]

pub no_anchor : (zone : Zone) (date : ServiceDate) (shown : DateTime) (offset : ℤ) → shown ≡ noon_of date → shown.time.subsec_nanosecond ≡ 0 → offset ≡ offset_shown zone shown → (IsTimestampNanos (civil_nanos shown -ℤ nanos_of_seconds offset) → ⊥) → None ≡ anchor_of zone date
no_anchor zone date shown offset is whole at far =
    let s : ℤ = civil_seconds shown -ℤ offset in
    let nanos : nanos_of_seconds s ≡ civil_nanos shown -ℤ nanos_of_seconds offset = omega (arith, signed_arith, civil_nanos-civil_seconds shown) in
    let same : s ≡ second_shown zone (noon_of date) = ap (λ (v : ℤ). civil_seconds shown -ℤ v) at ∙ ap (λ (v : DateTime). second_shown zone v) is in
    far_off (s -ℤ pos 43_200) s refl (λ h. far (rw nanos at h)) ∙ ap (λ (v : ℤ). moment_at (v -ℤ pos 43_200)) same
