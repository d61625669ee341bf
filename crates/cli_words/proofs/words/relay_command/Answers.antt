use Rattle.cli_words.proofs.WordsLemmas.{no_relay}
use Rattle.cli_words.proofs.words.relay_command.Goals as goal

pub returns-in-None : goal.returns-in-None
returns-in-None c = no_relay _ (rw c.in-None.is at c.in_ok-relay.ensures)
