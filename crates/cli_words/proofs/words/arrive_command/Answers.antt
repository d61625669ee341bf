use Rattle.cli_words.proofs.WordsLemmas.{no_arrive}
use Rattle.cli_words.proofs.words.arrive_command.Goals as goal

pub returns-in-None : goal.returns-in-None
returns-in-None c = no_arrive _ (rw c.in-None.is at c.in_ok-arrive.ensures)
