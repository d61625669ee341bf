-- The arguments of `check`.
use Rattle.std.specs.Prelude.{ℕ, List}
use Rattle.cli_words.specs.FeedWindow.{SaysFeedWindow}
use Rattle.cli_words.specs.Line.{IsLine, check_line}
use Rattle.cli_words.specs.declared.command.Check.{Check}

-- the arguments after `check` say this
pub record SaysCheck (words : List (List ℕ)) (check : Check) : Type 0 where
  pub is_line : IsLine check_line words
  pub window : SaysFeedWindow check_line words check.window
