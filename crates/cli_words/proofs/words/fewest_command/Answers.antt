use Rattle.cli_words.proofs.WordsLemmas.{no_fewest}
use Rattle.cli_words.proofs.words.fewest_command.Goals as goal

pub returns-in-None : goal.returns-in-None
returns-in-None c = no_fewest _ (rw c.in-None.is at c.in_ok-fewest.ensures)
