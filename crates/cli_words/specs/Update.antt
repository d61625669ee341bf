-- The option that names a file with a message.
use Rattle.std.specs.Prelude.{◌≡◌, ℕ, List, codes, Option, IfSome, IsTrue}
use Rattle.clap.specs.Simple.{App}
use Rattle.cli_words.specs.Line.{value_at}
use Rattle.cli_words.specs.Options.{is_name}

-- `--update`, the name of a file, if it is there
pub record SaysUpdate (a : App) (words : List (List ℕ)) (update : Option (List ℕ)) : Type 0 where
  pub is : value_at a words (codes "update") ≡ update
  pub named : IfSome update (λ name. IsTrue (is_name name))
