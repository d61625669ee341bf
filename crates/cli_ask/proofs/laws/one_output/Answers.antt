use Rattle.cli_ask.proofs.OneOutputLemmas.{one_output}
use Rattle.cli_ask.proofs.laws.one_output.Goals as goal

pub returns : goal.returns
returns g c = one_output c.one_answer.ensures.arrival c.one_answer.ensures.needed c.one_outcome.ensures.one g.L.Link.seen g.M.Link.seen
