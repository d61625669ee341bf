-- What the rows of frequencies.txt say is in range.
use Rattle.std.proofs.Common.{◌≡◌, ℕ, ◌<◌, ◌==◌, Bool, true, false, cond, List, [], Option, Some, None, arith, codes, get_or, map, refl, subst}
use Rattle.std.proofs.lemmas.Bool.Decides.{nat_tests}
use Rattle.lc_time.proofs.SaidLemmas.{times_said}
use Rattle.lc_time.specs.Clock.{gtfs_time_said}
use Rattle.lc_time.specs.Digits.{u32_said}
use Rattle.gtfs_rows.specs.Sheet.{Sheet}
use Rattle.gtfs_tables.specs.Fields.Columns.{text_at}
use Rattle.gtfs_tables.specs.Fields.Fields.{id_said}
use Rattle.gtfs_tables.specs.Fields.Times.{IsInDay}
use Rattle.gtfs_tables.proofs.FieldsLemmas.SaidItems.{item_at}
use Rattle.gtfs_tables.specs.Calendars.Frequencies.{frequency_of, frequency_said, headway_said, positive}
use Rattle.gtfs_tables.specs.Calendars.Spans.{AreSpans, IsSpan}
use Rattle.gtfs_tables.specs.declared.calendars.frequency.Frequency.{Frequency}

none_not_some : {A : Type 0} (x : A) → (◌≡◌ {A = Option A} None (Some x)) → ⊥
none_not_some x e = cc

some_is : {A : Type 0} (x y : A) → Some x ≡ Some y → x ≡ y
some_is x y e = cc

not_zero : (o : Option ℕ) (n : ℕ) → positive o ≡ Some n → 0 < n
not_zero None n e = absurd (none_not_some n e)
not_zero (Some m) n e = by_test (m == 0) refl e
  where
    by_test : (b : Bool) → (m == 0) ≡ b → cond b None (Some m) ≡ Some n → 0 < n
    by_test true is h = absurd (none_not_some n h)
    by_test false is h = let same : m ≡ n = some_is m n h in grind (arith, nat_tests)

span_of : (trip : Option (List ℕ)) (headway from to : Option ℕ) (f : Frequency) → ((n : ℕ) → headway ≡ Some n → 0 < n) → IsInDay from → IsInDay to
    → frequency_of trip headway from to ≡ Some f → IsSpan f
span_of None headway from to f p q r e = absurd (none_not_some f e)
span_of (Some trip) None from to f p q r e = absurd (none_not_some f e)
span_of (Some trip) (Some headway) None to f p q r e = absurd (none_not_some f e)
span_of (Some trip) (Some headway) (Some from) None f p q r e = absurd (none_not_some f e)
span_of (Some trip) (Some headway) (Some from) (Some to) f p q r e =
    let whole : Frequency = record { trip = trip; from = from; to = to; headway = headway } in
    let span : IsSpan whole = record { from_in_day = q from refl; to_in_day = r to refl; apart = p headway refl } in
    subst IsSpan (some_is whole f e) span

span_said : (sheet : Sheet) (row : List (List ℕ)) (f : Frequency) → frequency_said sheet row ≡ Some f → IsSpan f
unfolding frequency_said
span_said sheet row f e =
    span_of (id_said (text_at sheet row (codes "trip_id"))) (headway_said (text_at sheet row (codes "headway_secs"))) (gtfs_time_said (text_at sheet row (codes "start_time"))) (gtfs_time_said (text_at sheet row (codes "end_time"))) f
    (λ n h. not_zero (u32_said (text_at sheet row (codes "headway_secs"))) n h)
    (λ s h. ((times_said (text_at sheet row (codes "start_time")) s).0 h).in_range)
    (λ s h. ((times_said (text_at sheet row (codes "end_time")) s).0 h).in_range) e

-- the rows that are read are in range
pub spans : (sheet : Sheet) (list : List Frequency) → map Some list ≡ map (frequency_said sheet) sheet.rows → AreSpans list
spans sheet list listed k d lt = span_said sheet (get_or sheet.rows k []) (get_or list k d) (item_at (frequency_said sheet) sheet.rows list listed k d [] lt)
