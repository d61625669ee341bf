-- A timetable of a feed as it is published.
use Rattle.std.specs.Prelude.{ℕ, List}
use Rattle.clap.specs.Simple.{App}
use Rattle.cli_words.specs.FeedWindow.{AsksWindow}
use Rattle.cli_words.specs.Publishing.{SaysPublishingOr, example}
use Rattle.cli_words.specs.Update.{SaysUpdate}
use Rattle.cli_words.specs.declared.command.Published.{Published}

-- the options of publishing, with this text where `--base` is not there, and `--update`
pub record SaysPublished (default_base : List ℕ) (a : App) (words : List (List ℕ)) (published : Published) : Type 0 where
  pub publishing : SaysPublishingOr default_base a words published.publishing
  pub update : SaysUpdate a words published.update

-- of what a question of this moment is asked: a feed in the window of the question, published by an in-process publisher
pub record AsksPublished (a : App) (words : List (List ℕ)) (moment : ℕ) (published : Published) : Type 0 where
  pub window : AsksWindow a words moment published.window
  pub says : SaysPublished example a words published
