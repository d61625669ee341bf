-- Times of a service day, of which a row may say none.
use Rattle.std.specs.Prelude.{ℕ, ◌==◌, ◌&&◌, ◌<◌, Bool, not, List, Option, is_none, length}
use Rattle.std.specs.Option.{ForSome}
use Rattle.lc_time.specs.Clock.{gtfs_time_said}

-- a time that is not empty is unreadable
abbrev pub is_wrong_time : List ℕ → Bool
is_wrong_time text = not (length text == 0) && is_none (gtfs_time_said text)

-- a time that is there is below 100 hours
abbrev pub IsInDay : Option ℕ → Type 0
IsInDay time = ForSome time (λ seconds. seconds < 360_000)
