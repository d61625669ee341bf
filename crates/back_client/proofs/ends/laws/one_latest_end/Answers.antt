use Rattle.back_client.proofs.EndsLemmas.NearLemmas as lemmas
use Rattle.back_client.proofs.ends.laws.one_latest_end.Goals as goal

pub returns : goal.returns
returns g c = lemmas.one_latest_end g.L.Link.seen g.M.Link.seen
