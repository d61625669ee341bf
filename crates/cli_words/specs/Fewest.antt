-- The arguments of `fewest`.
use Rattle.std.specs.Prelude.{ℕ, List}
use Rattle.cli_words.specs.Line.{IsLine, fewest_line}
use Rattle.cli_words.specs.Published.{AsksPublished}
use Rattle.cli_words.specs.Question.{AsksQuestion}
use Rattle.cli_words.specs.declared.command.Fewest.{Fewest}

-- the arguments after `fewest` say this: what those of `ask` say, but how many pages are cached
pub record SaysFewest (words : List (List ℕ)) (fewest : Fewest) : Type 0 where
  pub is_line : IsLine fewest_line words
  pub question : AsksQuestion fewest_line words fewest.query
  pub published : AsksPublished fewest_line words fewest.query.leave fewest.published
