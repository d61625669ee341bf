use Rattle.rounds_client.proofs.EndsLemmas.OneLemmas.{one_fewest_by_replies}
use Rattle.rounds_client.proofs.ends.replies.one_fewest_by_replies.Goals as goal

pub returns : goal.returns
returns g c = one_fewest_by_replies g.L.Link.seen g.M.Link.seen
