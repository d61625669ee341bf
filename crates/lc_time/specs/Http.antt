-- Dates of HTTP header fields (RFC 9110, section 5.6.7), in the definitions of `httpdate`.
use Rattle.std.specs.Prelude.{ℕ, ◌/◌, ◌%◌, ◌<◌, Bool, ◌||◌, ◌==◌, if◌then◌else◌, List, [], ◌∷◌, reverse}
use Rattle.httpdate.specs.Calendar.{weekday}
use Rattle.httpdate.specs.Date.{IsPartsText}
use Rattle.httpdate.specs.Text.{imf_fixdate}
use Rattle.httpdate.specs.declared.parts.Parts.{Parts}
use Rattle.lc_time.specs.Calendar.{day_at}

-- the year, month, day, hour, minute, second and weekday of the moment
abbrev pub http_parts_of : ℕ → Parts
http_parts_of moment = record {
  year = (day_at (moment / 86_400)).year;
  mon = (day_at (moment / 86_400)).month;
  day = (day_at (moment / 86_400)).day;
  hour = moment % 86_400 / 3600;
  min = moment / 60 % 60;
  sec = moment % 60;
  wday = weekday (moment / 86_400);
}

-- IMF-fixdate, as `Sun, 06 Nov 1994 08:49:37 GMT`
abbrev pub http_date_of : ℕ → List ℕ
http_date_of moment = imf_fixdate (http_parts_of moment)

-- a space or a tab
abbrev pub is_blank : ℕ → Bool
is_blank byte = (byte == 32) || (byte == 9)

-- the text after the blanks at its front
abbrev pub without_front_blanks : List ℕ → List ℕ
without_front_blanks [] = []
without_front_blanks (byte ∷ rest) = if is_blank byte then without_front_blanks rest else byte ∷ rest

-- the text without the blanks at its ends
abbrev pub without_blanks : List ℕ → List ℕ
without_blanks text = reverse (without_front_blanks (reverse (without_front_blanks text)))

-- Without the blanks at its ends, the text is the date of this moment in one of three formats. These are IMF-fixdate,
-- that of RFC 850, whose two digits of the year say 1970 to 2069, and that of asctime.
pub record SaysHttpDate (text : List ℕ) (moment : ℕ) : Type 0 where
  pub in_range : moment < 253_402_128_000
  pub written : IsPartsText (without_blanks text) (http_parts_of moment)
