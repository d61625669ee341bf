-- The arguments of `arrive`.
use Rattle.std.specs.Prelude.{ℕ, List}
use Rattle.cli_words.specs.Line.{IsLine, arrive_line}
use Rattle.cli_words.specs.Published.{AsksPublished}
use Rattle.cli_words.specs.Question.{AsksArrival}
use Rattle.cli_words.specs.declared.command.Arrive.{Arrive}

-- The arguments after `arrive` say this. MOMENT is the one by which to arrive.
pub record SaysArrive (words : List (List ℕ)) (arrive : Arrive) : Type 0 where
  pub is_line : IsLine arrive_line words
  pub question : AsksArrival arrive_line words arrive.query
  pub published : AsksPublished arrive_line words arrive.query.arrive arrive.published
