use Rattle.cli_words.proofs.WordsLemmas.{no_ask}
use Rattle.cli_words.proofs.words.ask_command.Goals as goal

pub returns-in-None : goal.returns-in-None
returns-in-None c = no_ask _ (rw c.in-None.is at c.in_ok-ask.ensures)
