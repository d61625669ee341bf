use Rattle.rounds_client.proofs.EndsLemmas.NearLemmas.{one_fewest_end}
use Rattle.rounds_client.proofs.ends.laws.one_fewest_end.Goals as goal

pub returns : goal.returns
returns g c = one_fewest_end c.one_answer.ensures.needed c.fewest_at_version.ensures.alike g.L.Link.seen g.M.Link.seen
