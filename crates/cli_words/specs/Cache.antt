-- The option that says how many pages are cached.
use Rattle.std.specs.Prelude.{ℕ, List, codes, Option}
use Rattle.clap.specs.Simple.{App}
use Rattle.cli_words.specs.Line.{value_at}
use Rattle.cli_words.specs.Options.{number_said}

-- the pages that `--cache` says, from 1 to 10,000, and 100 where it is not there
abbrev pub cache_said : App → List (List ℕ) → Option ℕ
cache_said a words = number_said 100 1 10_000 (value_at a words (codes "cache"))
