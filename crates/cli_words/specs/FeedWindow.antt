-- A feed and its window.
use Rattle.std.specs.Prelude.{◌≡◌, ℕ, ◌/◌, ◌-◌, List, codes, Some}
use Rattle.clap.specs.Simple.{App}
use Rattle.lc_model.specs.declared.date.ServiceDate.{ServiceDate}
use Rattle.lc_time.specs.Date.{date_text_of}
use Rattle.cli_words.specs.Line.{value_at}
use Rattle.cli_words.specs.Options.{AreOptions}
use Rattle.cli_words.specs.Window.{IsDateAt}
use Rattle.cli_words.specs.declared.command.FeedWindow.{FeedWindow}

-- FEED, and the options of a window, with so many days where `--days` is not there
pub record HasWindow (a : App) (words : List (List ℕ)) (default_days : ℕ) (window : FeedWindow) : Type 0 where
  pub feed_is : value_at a words (codes "feed") ≡ Some window.feed
  pub options : AreOptions a words default_days window.days window.zone window.change

-- FIRST
abbrev pub SaysFirst : App → List (List ℕ) → ServiceDate → Type 0
SaysFirst a words first = value_at a words (codes "first") ≡ Some (date_text_of first.year first.month first.day)

-- a window whose first date the arguments say, with seven days where `--days` is not there
pub record SaysFeedWindow (a : App) (words : List (List ℕ)) (window : FeedWindow) : Type 0 where
  pub first_is : SaysFirst a words window.first
  pub has : HasWindow a words 7 window

-- The window of a question begins on the day before the date of MOMENT in UTC. It has three days where `--days` is not there.
pub record AsksWindow (a : App) (words : List (List ℕ)) (moment : ℕ) (window : FeedWindow) : Type 0 where
  pub first_is : IsDateAt window.first (moment / 86_400 - 1)
  pub has : HasWindow a words 3 window
