-- The arguments of `relay`.
use Rattle.std.specs.Prelude.{◌≡◌, ℕ, List, codes, Option, Some}
use Rattle.cli_words.specs.Cache.{cache_said}
use Rattle.cli_words.specs.Line.{IsLine, relay_line, value_at}
use Rattle.cli_words.specs.Options.{number_said}
use Rattle.cli_words.specs.Publishing.{SaysBase}
use Rattle.cli_words.specs.declared.command.Relay.{Relay}

-- the documents that `--entries` says, from 1 to 1,000, and 100 where it is not there
abbrev pub entries_said : List (List ℕ) → Option ℕ
entries_said words = number_said 100 1 1_000 (value_at relay_line words (codes "entries"))

-- The arguments after `relay` say this. URL says the base of a publisher, and ASKS is any text.
pub record SaysRelay (words : List (List ℕ)) (relay : Relay) : Type 0 where
  pub is_line : IsLine relay_line words
  -- the text of the base
  pub url : List ℕ
  pub url_is : value_at relay_line words (codes "url") ≡ Some url
  pub base_said : SaysBase url relay.base
  pub asks_is : value_at relay_line words (codes "asks") ≡ Some relay.asks
  pub cache_is : cache_said relay_line words ≡ Some relay.cache
  pub entries_are : entries_said words ≡ Some relay.entries
