use Rattle.back_client.proofs.EndsLemmas.ReplyEndLemmas.{latest_by_its_replies}
use Rattle.back_client.proofs.ends.replies.latest_by_its_replies.Goals as goal

pub returns : goal.returns
returns g c = latest_by_its_replies g.L.Link.seen
