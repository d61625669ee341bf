use Rattle.cli_words.proofs.WordsLemmas.{no_serve}
use Rattle.cli_words.proofs.words.serve_command.Goals as goal

pub returns-in-None : goal.returns-in-None
returns-in-None c = no_serve _ (rw c.in-None.is at c.in_ok-serve.ensures)
