use Rattle.convoy.proofs.RepliesLemmas.RunLemmas.{ends_by_its_replies}
use Rattle.convoy.proofs.replies.laws.alone_over_any_link.Goals as goal

pub returns : goal.returns
returns g c = ends_by_its_replies g.L.Link.seen
