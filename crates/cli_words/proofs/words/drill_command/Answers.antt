use Rattle.cli_words.proofs.WordsLemmas.{no_drill}
use Rattle.cli_words.proofs.words.drill_command.Goals as goal

pub returns-in-None : goal.returns-in-None
returns-in-None c = no_drill _ (rw c.in-None.is at c.in_ok-drill.ensures)
