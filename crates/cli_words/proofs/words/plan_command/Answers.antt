use Rattle.cli_words.proofs.WordsLemmas.{no_plan}
use Rattle.cli_words.proofs.words.plan_command.Goals as goal

pub returns-in-None : goal.returns-in-None
returns-in-None c = no_plan _ (rw c.in-None.is at c.in_ok-plan.ensures)
