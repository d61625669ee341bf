use Rattle.cli_drill.proofs.MessagesLemmas.{message_says}
use Rattle.cli_drill.proofs.laws.drilled_messages.Goals as goal

pub returns : goal.returns
returns c = message_says
