-- The arguments of `replay`.
use Rattle.std.specs.Prelude.{◌≡◌, ℕ, List, codes, Some}
use Rattle.cli_words.specs.Cache.{cache_said}
use Rattle.cli_words.specs.FeedWindow.{SaysFeedWindow}
use Rattle.cli_words.specs.Line.{IsLine, replay_line, value_at}
use Rattle.cli_words.specs.Publishing.{SaysPublishing}
use Rattle.cli_words.specs.declared.command.Replay.{Replay}

-- The arguments after `replay` say this. SCRIPT is any text.
pub record SaysReplay (words : List (List ℕ)) (replay : Replay) : Type 0 where
  pub is_line : IsLine replay_line words
  pub window : SaysFeedWindow replay_line words replay.window
  pub publishing : SaysPublishing replay_line words replay.publishing
  pub cache_is : cache_said replay_line words ≡ Some replay.cache
  pub script_is : value_at replay_line words (codes "script") ≡ Some replay.script
