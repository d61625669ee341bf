use Rattle.cli_words.proofs.WordsLemmas.{no_replay}
use Rattle.cli_words.proofs.words.replay_command.Goals as goal

pub returns-in-None : goal.returns-in-None
returns-in-None c = no_replay _ (rw c.in-None.is at c.in_ok-replay.ensures)
