-- Texts of moments at the ends of connections.
use Rattle.std.proofs.Common.{◌≡◌, true, ℕ, ◌/◌, ◌%◌, ◌<◌, ◌++◌, List, [], ◌∷◌, IsAscii, ap, ap₂, arith, codes, refl}
use Rattle.std.specs.Prelude.{nat_lt}
use Rattle.std.specs.List.{list_all}
use Rattle.std.proofs.lemmas.Bool.{and_parts}
use Rattle.std.proofs.lemmas.Bool.Decides.{nat_tests}
use Rattle.std.proofs.lemmas.Str.{IsAscii-append}
use Rattle.std.proofs.lemmas.Str.Ascii.{IsAscii-nil, IsAscii-cons}
use Rattle.lc_time.specs.Calendar.{day_at}
use Rattle.lc_time.specs.Clock.{clock_text_of}
use Rattle.lc_time.specs.Iso.{day_text_of, iso_text_of}
use Rattle.lc_time.proofs.AsciiLemmas.{iso_ascii}
use Rattle.page_json.specs.MomentText.{end_text}
use Rattle.page_json.specs.declared.moment_text.End.{End}
use Rattle.page_json.specs.declared.moment_text.End.TheVariants.{Arrival, Departure}

-- the day of one moment with the time of day of another, which is of the same day
abbrev day_and_clock : ℕ → ℕ → List ℕ
day_and_clock days seconds = day_text_of (day_at days) ++ codes "T" ++ clock_text_of seconds ++ codes ".000Z"

of_one_day : (last moment seconds : ℕ) → last / 86_400 ≡ moment / 86_400 → seconds ≡ moment % 86_400 → day_and_clock (last / 86_400) seconds ≡ iso_text_of moment
of_one_day last moment seconds day clock = ap₂ day_and_clock day clock

pub arrival_of_day : (last moment seconds : ℕ) → last / 86_400 ≡ moment / 86_400 → seconds ≡ moment % 86_400
    → codes "\",\"arrivalTime\":\"" ++ ((day_text_of (day_at (last / 86_400)) ++ codes "T" ++ clock_text_of seconds ++ codes ".000Z") ++ codes "\",") ≡ end_text Arrival moment
arrival_of_day last moment seconds day clock =
    ap (λ (s : List ℕ). codes "\",\"arrivalTime\":\"" ++ (s ++ codes "\",")) (of_one_day last moment seconds day clock)

pub departure_of_day : (last moment seconds : ℕ) → last / 86_400 ≡ moment / 86_400 → seconds ≡ moment % 86_400
    → codes "\",\"departureTime\":\"" ++ (day_text_of (day_at (last / 86_400)) ++ codes "T" ++ clock_text_of seconds ++ codes ".000Z") ≡ end_text Departure moment
departure_of_day last moment seconds day clock = ap (λ (s : List ℕ). codes "\",\"departureTime\":\"" ++ s) (of_one_day last moment seconds day clock)

low : (byte : ℕ) → nat_lt byte 128 ≡ true → byte < 128
low byte h = grind (arith, nat_tests)

-- whether a text is ASCII, by its bytes
ascii_tested : (text : List ℕ) → list_all (λ byte. nat_lt byte 128) text ≡ true → IsAscii text
ascii_tested [] h = IsAscii-nil
ascii_tested (byte ∷ text) h =
    let parts = and_parts (nat_lt byte 128) (list_all (λ b. nat_lt b 128) text) h in
    IsAscii-cons byte text (low byte parts.0) (ascii_tested text parts.1)

-- the texts are ASCII
pub end_ascii : (end : End) (moment : ℕ) → moment < 253_402_128_000 → IsAscii (end_text end moment)
end_ascii Arrival moment h =
    let front = codes "\",\"arrivalTime\":\"" in
    let rest = codes "\"," in
    IsAscii-append front (iso_text_of moment ++ rest) (ascii_tested front refl) (IsAscii-append (iso_text_of moment) rest (iso_ascii moment h) (ascii_tested rest refl))
end_ascii Departure moment h =
    let front = codes "\",\"departureTime\":\"" in
    IsAscii-append front (iso_text_of moment) (ascii_tested front refl) (iso_ascii moment h)
