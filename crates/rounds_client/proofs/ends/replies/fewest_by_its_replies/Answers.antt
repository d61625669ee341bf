use Rattle.rounds_client.proofs.EndsLemmas.AnswerLemmas.{fewest_by_its_replies}
use Rattle.rounds_client.proofs.ends.replies.fewest_by_its_replies.Goals as goal

pub returns : goal.returns
returns g c = fewest_by_its_replies g.L.Link.seen
