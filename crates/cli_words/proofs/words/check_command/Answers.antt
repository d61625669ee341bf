use Rattle.cli_words.proofs.WordsLemmas.{no_check}
use Rattle.cli_words.proofs.words.check_command.Goals as goal

pub returns-in-None : goal.returns-in-None
returns-in-None c = no_check _ (rw c.in-None.is at c.in_ok-check.ensures)
