use Rattle.back_client.proofs.EndsLemmas.OneLemmas.{one_latest_by_replies}
use Rattle.back_client.proofs.ends.replies.one_latest_by_replies.Goals as goal

pub returns : goal.returns
returns g c = one_latest_by_replies g.L.Link.seen g.M.Link.seen
