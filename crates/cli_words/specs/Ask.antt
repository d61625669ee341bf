-- The arguments of `ask`.
use Rattle.std.specs.Prelude.{◌≡◌, ℕ, List, Some}
use Rattle.cli_words.specs.Cache.{cache_said}
use Rattle.cli_words.specs.Line.{IsLine, ask_line}
use Rattle.cli_words.specs.Published.{AsksPublished}
use Rattle.cli_words.specs.Question.{AsksQuestion}
use Rattle.cli_words.specs.declared.command.Ask.{Ask}

-- the arguments after `ask` say this
pub record SaysAsk (words : List (List ℕ)) (ask : Ask) : Type 0 where
  pub is_line : IsLine ask_line words
  pub question : AsksQuestion ask_line words ask.query
  pub published : AsksPublished ask_line words ask.query.leave ask.published
  pub cache_is : cache_said ask_line words ≡ Some ask.cache
