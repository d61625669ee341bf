use Rattle.cli_words.proofs.OneCommandLemmas.{only_command}
use Rattle.cli_words.proofs.laws.one_command.Goals as goal

pub returns : goal.returns
returns c = only_command
