use Rattle.cli_ask.proofs.OnePublisherLemmas.{one_publisher}
use Rattle.cli_ask.proofs.laws.one_publisher.Goals as goal

pub returns : goal.returns
returns c = one_publisher c.one_outcome.ensures.one
