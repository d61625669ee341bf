-- Dates as eight digits (GTFS Schedule Reference, field type Date).
use Rattle.std.specs.Prelude.{◌≡◌, ℕ, ◌<◌, nat_le, ◌==◌, Bool, true, false, ◌&&◌, if◌then◌else◌, List, ◌++◌, length, take, drop, slice_range, Option, Some, None}
use Rattle.std.specs.List.{list_all}
use Rattle.std.specs.Char.{is_ascii_digit}
use Rattle.std.specs.Str.Parse.{digits_value}
use Rattle.std.proofs.Common.{refl}
use Rattle.std.proofs.lemmas.Bool.{leb-true}
use Rattle.lc_model.specs.Calendar.{days_in_month}
use Rattle.lc_model.specs.declared.date.ServiceDate.{ServiceDate}
use Rattle.lc_time.specs.Digits.{two_digits, four_digits}

-- YYYYMMDD
abbrev pub date_text_of : ℕ → ℕ → ℕ → List ℕ
date_text_of year month day = four_digits year ++ two_digits month ++ two_digits day

-- eight digits have room for these numbers
pub record AreDateNumbers (year month day : ℕ) : Type 0 where
  pub year_fits : year < 10_000
  pub month_fits : month < 100
  pub day_fits : day < 100

-- what there is where a test passes, and none where it fails
abbrev pub where_passed : {X : Type 0} (test : Bool) → (test ≡ true → Option X) → Option X
where_passed true gives = gives refl
where_passed false gives = None

-- the date of these numbers, if the calendar has it in the years 1 to 9999
abbrev pub civil_date : ℕ → ℕ → ℕ → Option ServiceDate
civil_date year month day =
    where_passed (nat_le 1 year) (λ year_from.
    where_passed (nat_le year 9999) (λ year_to.
    where_passed (nat_le 1 month) (λ month_from.
    where_passed (nat_le month 12) (λ month_to.
    where_passed (nat_le 1 day) (λ day_from.
    where_passed (nat_le day (days_in_month year month)) (λ day_to.
    Some (record {
      year = year;
      month = month;
      day = day;
      civil = record {
        year_from = leb-true 1 year year_from;
        year_to = leb-true year 9999 year_to;
        month_from = leb-true 1 month month_from;
        month_to = leb-true month 12 month_to;
        day_from = leb-true 1 day day_from;
        day_to = leb-true day (days_in_month year month) day_to;
      };
    })))))))

-- eight digits
abbrev pub is_eight_digits : List ℕ → Bool
is_eight_digits text = (length text == 8) && list_all is_ascii_digit text

-- the date that a text says, YYYYMMDD
abbrev pub date_said : List ℕ → Option ServiceDate
date_said text =
    if is_eight_digits text
    then civil_date (digits_value 10 (take 4 text)) (digits_value 10 (slice_range text 4 6)) (digits_value 10 (drop 6 text))
    else None
