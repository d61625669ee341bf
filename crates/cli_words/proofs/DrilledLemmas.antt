-- The arguments of the replay that a drill plays say a replay.
use Rattle.std.proofs.Common.{◌≡◌, ◌≢◌, ◌∙◌, ℕ, zero, suc, ◌+◌, ◌≤◌, List, [], ◌∷◌, All, codes, decimal, length, Some, Option, ap, arith, lit≤, pos, refl, subst, sym}
use Rattle.std.proofs.lemmas.Fmt.{decimal_digit}
use Rattle.std.proofs.lemmas.List.Elements.{All-cons, All-nil}
use Rattle.clap.specs.Walk.{Text}
use Rattle.fragmenter.specs.declared.by_span.BySpan.{BySpan}
use Rattle.fragmenter.specs.declared.cutting.Cutting.TheVariants as ways
use Rattle.jiff_core.specs.Calendar.{day_count, days_from_civil, days_of_months, days_of_years}
use Rattle.lc_model.specs.declared.date.ServiceDate.{ServiceDate}
use Rattle.lc_time.specs.Iso.{SaysMoment}
use Rattle.lc_time.proofs.CalendarLemmas.{number_at_date}
use Rattle.cli_words.specs.Drill.{drilled_words}
use Rattle.cli_words.specs.Grammar.{IsPlainWord, SayValues, Value, apart, ended, plain}
use Rattle.cli_words.specs.Line.{IsNoDash}
use Rattle.cli_words.specs.Options.{bounded_said, number_said, text_said, zone_said}
use Rattle.cli_words.specs.Publishing.{SaysBase, SaysCutting}
use Rattle.cli_words.specs.Replay.{SaysReplay}
use Rattle.cli_words.specs.Window.{IsWindow}
use Rattle.cli_words.specs.declared.command.Publishing.{Publishing}
use Rattle.cli_words.specs.declared.command.Replay.{Replay}
use Rattle.cli_words.proofs.DefaultLemmas.{default_base, default_cutting, default_moment}
use Rattle.cli_words.proofs.GrammarLemmas.{replay_grammar}

-- what holds of each day of a week holds of such a number of days
by_days : (P : ℕ → Type 0) → P 1 → P 2 → P 3 → P 4 → P 5 → P 6 → P 7 → (days : ℕ) → 1 ≤ days → days ≤ 7 → P days
by_days P a b c d e f g zero low high = absurd (omega (arith, low))
by_days P a b c d e f g (suc zero) low high = a
by_days P a b c d e f g (suc (suc zero)) low high = b
by_days P a b c d e f g (suc (suc (suc zero))) low high = c
by_days P a b c d e f g (suc (suc (suc (suc zero)))) low high = d
by_days P a b c d e f g (suc (suc (suc (suc (suc zero))))) low high = e
by_days P a b c d e f g (suc (suc (suc (suc (suc (suc zero)))))) low high = f
by_days P a b c d e f g (suc (suc (suc (suc (suc (suc (suc zero))))))) low high = g
by_days P a b c d e f g (suc (suc (suc (suc (suc (suc (suc (suc days)))))))) low high = absurd (omega (arith, high))

-- the text of a number of days is plain and says it
record IsDaysWord (days : ℕ) (word : Text) : Type 0 where
  plain_word : IsPlainWord word
  no_dash : IsNoDash word
  said : bounded_said 1 62 word ≡ Some days

no_minus : (first : ℕ) (rest : List ℕ) → first ≢ 45 → IsNoDash (first ∷ rest)
no_minus first rest other e = other (cc)

abbrev IsDigit : ℕ → Type 0
IsDigit days = IsDaysWord days ((48 + days) ∷ [])

days_word : (days : ℕ) → 1 ≤ days → days ≤ 7 → IsDaysWord days (decimal days)
days_word days low high =
    subst (IsDaysWord days) (sym (decimal_digit days (omega (arith, high)))) (by_days IsDigit
    (record { plain_word = λ e. omega (arith, e); no_dash = no_minus 49 [] (λ e. omega (arith, e)); said = refl })
    (record { plain_word = λ e. omega (arith, e); no_dash = no_minus 50 [] (λ e. omega (arith, e)); said = refl })
    (record { plain_word = λ e. omega (arith, e); no_dash = no_minus 51 [] (λ e. omega (arith, e)); said = refl })
    (record { plain_word = λ e. omega (arith, e); no_dash = no_minus 52 [] (λ e. omega (arith, e)); said = refl })
    (record { plain_word = λ e. omega (arith, e); no_dash = no_minus 53 [] (λ e. omega (arith, e)); said = refl })
    (record { plain_word = λ e. omega (arith, e); no_dash = no_minus 54 [] (λ e. omega (arith, e)); said = refl })
    (record { plain_word = λ e. omega (arith, e); no_dash = no_minus 55 [] (λ e. omega (arith, e)); said = refl })
    days low high)

-- 2024-05-01
first_date : ServiceDate
first_date = record {
  year = 2024;
  month = 5;
  day = 1;
  civil = record { year_from = lit≤ tt; year_to = lit≤ tt; month_from = lit≤ tt; month_to = lit≤ tt; day_from = lit≤ tt; day_to = lit≤ tt };
}

same_count : (m n : ℕ) → pos m ≡ pos n → m ≡ n
same_count m n e = cc

counted : days_from_civil (pos 2024) 5 1 ≡ pos 19_844
unfolding days_from_civil day_count days_of_years days_of_months
counted = refl

is_window : (days : ℕ) → days ≤ 7 → IsWindow first_date days
unfolding first_date
is_window days few = record {
  from_1970 = lit≤ tt;
  in_range = λ number bound at.
      let is = number_at_date number (pos 2024) 5 1 bound (ap pos at.year) at.month at.day in
      let n : 19_844 ≡ number = same_count 19_844 number (sym counted ∙ is) in
      (omega (arith, n), omega (arith, n, few));
}

abbrev options : List Text
options = codes "days" ∷ codes "zone" ∷ codes "change" ∷ codes "base" ∷ codes "base-moment" ∷ codes "cuts" ∷ codes "cache" ∷ []

abbrev values : ℕ → List Value
values days = (codes "feed", codes "feed") ∷ (codes "first", codes "20240501") ∷ (codes "script", codes "script.csv") ∷ (codes "days", decimal days) ∷ []

no_dashes : (days : ℕ) → IsDaysWord days (decimal days) → All IsNoDash (drilled_words days)
no_dashes days word =
    let five : List Text = decimal days ∷ [] in
    let four : List Text = codes "--days" ∷ five in
    let three : List Text = codes "script.csv" ∷ four in
    let two : List Text = codes "20240501" ∷ three in
    All-cons IsNoDash (codes "feed") two (no_minus 102 (codes "eed") (λ e. omega (arith, e)))
    (All-cons IsNoDash (codes "20240501") three (no_minus 50 (codes "0240501") (λ e. omega (arith, e)))
    (All-cons IsNoDash (codes "script.csv") four (no_minus 115 (codes "cript.csv") (λ e. omega (arith, e)))
    (All-cons IsNoDash (codes "--days") five (λ e. let n : 6 ≡ 1 = ap length e in omega (arith, n))
    (All-cons IsNoDash (decimal days) [] word.no_dash (All-nil IsNoDash)))))

say_values : (days : ℕ) → IsDaysWord days (decimal days) → SayValues (codes "feed" ∷ codes "first" ∷ codes "script" ∷ []) options [] (drilled_words days) (values days)
say_values days word = record {
  reads = plain (λ e. omega (arith, e)) (plain (λ e. omega (arith, e)) (plain (λ e. omega (arith, e)) (apart refl word.plain_word ended)));
  once = refl;
  no_dash = no_dashes days word;
}

abbrev half_hours : BySpan
half_hours = record { seconds = 1800; at_least = lit≤ tt; at_most = lit≤ tt }

abbrev publishing : Publishing
publishing = record {
  base = record { text = codes "http://lc.example/"; authority = codes "lc.example"; path = codes "/" };
  base_moment = 0;
  cutting = ways.Span half_hours;
}

replay_of : (days : ℕ) → 1 ≤ days → days ≤ 7 → Replay
replay_of days low high = record {
  window = record {
    feed = codes "feed";
    first = first_date;
    days = days;
    zone = codes "utc";
    change = 120;
    some_days = low;
    two_months = omega (arith, high);
    is_window = is_window days high;
    within_a_day = lit≤ tt;
  };
  publishing = publishing;
  cache = 100;
  script = codes "script.csv";
  some_pages = lit≤ tt;
  most_pages = lit≤ tt;
}

pub drilled : (days : ℕ) → 1 ≤ days → days ≤ 7 → (replay : Replay) × SaysReplay (drilled_words days) replay
unfolding replay_of first_date
drilled days low high =
    let word = days_word days low high in
    let taken = replay_grammar.takes (drilled_words days) (values days) (say_values days word) in
    let at = taken.1 in (
      replay_of days low high,
      record {
        is_line = taken.0;
        window = record {
          first_is = at (codes "first");
          has = record {
            feed_is = at (codes "feed");
            options = record {
              days_said = ap (number_said 7 1 62) (at (codes "days")) ∙ word.said;
              zone_is = ap zone_said (at (codes "zone"));
              change_said = ap (number_said 120 0 86_400) (at (codes "change"));
            };
          };
        };
        publishing = record {
          base_said = subst (λ (v : Option (List ℕ)). SaysBase (text_said (codes "http://lc.example/") v) publishing.base) (sym (at (codes "base"))) default_base;
          moment_said = subst (λ (v : Option (List ℕ)). SaysMoment (text_said (codes "1970-01-01T00:00:00Z") v) 0) (sym (at (codes "base-moment"))) default_moment;
          cutting_said = subst (λ (v : Option (List ℕ)). SaysCutting (text_said (codes "span:1800") v) publishing.cutting) (sym (at (codes "cuts"))) (default_cutting half_hours refl);
        };
        cache_is = ap (number_said 100 1 10_000) (at (codes "cache"));
        script_is = at (codes "script");
      },
    )
