-- A text says one value.
use Rattle.std.specs.Prelude.{◌≡◌, ℕ, ◌<◌, ◌↔◌, List, Some}
use Rattle.lc_model.specs.declared.date.ServiceDate.{ServiceDate}
use Rattle.lc_time.specs.Clock.{SaysGtfsTime, gtfs_time_said, start_text_of}
use Rattle.lc_time.specs.Date.{date_said, date_text_of}
use Rattle.lc_time.specs.Http.{SaysHttpDate}
use Rattle.lc_time.specs.Iso.{SaysMoment}

-- two dates of one text are one
abbrev pub OneDate : Type 0
OneDate = (a b : ServiceDate) → date_text_of a.year a.month a.day ≡ date_text_of b.year b.month b.day → a ≡ b

-- two starts of one text are one
abbrev pub OneStart : Type 0
OneStart = (a b : ℕ) → a < 360_000 → b < 360_000 → start_text_of a ≡ start_text_of b → a ≡ b

-- a text says one time of a service day
abbrev pub OneTime : Type 0
OneTime = (text : List ℕ) (a b : ℕ) → SaysGtfsTime text a → SaysGtfsTime text b → a ≡ b

-- a text of ISO 8601 says one moment
abbrev pub OneMoment : Type 0
OneMoment = (text : List ℕ) (a b : ℕ) → SaysMoment text a → SaysMoment text b → a ≡ b

-- a date of HTTP says one moment
abbrev pub OneHttpMoment : Type 0
OneHttpMoment = (text : List ℕ) (a b : ℕ) → SaysHttpDate text a → SaysHttpDate text b → a ≡ b

-- the date that a text says is the one whose text it is
abbrev pub DateSaid : Type 0
DateSaid = (text : List ℕ) (date : ServiceDate) → (date_said text ≡ Some date) ↔ (text ≡ date_text_of date.year date.month date.day)

-- the time of GTFS that a text says is the one whose text it is
abbrev pub TimeSaid : Type 0
TimeSaid = (text : List ℕ) (seconds : ℕ) → (gtfs_time_said text ≡ Some seconds) ↔ SaysGtfsTime text seconds
