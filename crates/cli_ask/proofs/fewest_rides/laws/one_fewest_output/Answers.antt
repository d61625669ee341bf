use Rattle.cli_ask.proofs.FewestRidesLemmas.OneLemmas.{one_fewest_output}
use Rattle.cli_ask.proofs.fewest_rides.laws.one_fewest_output.Goals as goal

pub returns : goal.returns
returns g c = one_fewest_output c.one_outcome.ensures.one c.fewest_at_version.ensures.alike g.L.Link.seen g.M.Link.seen c.one_output.ensures
