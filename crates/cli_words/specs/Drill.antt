-- The arguments of `drill`.
use Rattle.std.specs.Prelude.{◌≡◌, ℕ, List, [], ◌∷◌, codes, decimal, Some}
use Rattle.cli_words.specs.Line.{IsLine, drill_line, value_at}
use Rattle.cli_words.specs.Options.{number_said, required_said}
use Rattle.cli_words.specs.declared.command.Drill.{Drill}

-- The arguments after `drill` say this. N is from 1 to 1,000,000, and `--days` from 1 to 7, 1 where it is not there.
pub record SaysDrill (words : List (List ℕ)) (drill : Drill) : Type 0 where
  pub is_line : IsLine drill_line words
  pub seed_is : required_said 1 1_000_000 (value_at drill_line words (codes "n")) ≡ Some drill.seed
  pub days_are : number_said 1 1 7 (value_at drill_line words (codes "days")) ≡ Some drill.days

-- The arguments after `replay` of what `drill` plays: the generated feed from 2024-05-01 on, the generated script, and as many days.
abbrev pub drilled_words : ℕ → List (List ℕ)
drilled_words days = codes "feed" ∷ codes "20240501" ∷ codes "script.csv" ∷ codes "--days" ∷ decimal days ∷ []
