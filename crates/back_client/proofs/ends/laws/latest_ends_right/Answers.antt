use Rattle.back_client.proofs.EndsLemmas.EndLemmas as lemmas
use Rattle.back_client.proofs.EndsLemmas.NamedLemmas.{named_at_gate}
use Rattle.back_client.proofs.ends.laws.latest_ends_right.Goals as goal

pub returns : goal.returns
returns g c =
    let seen = g.L.Link.seen in
    record { right = lemmas.latest_ends_right seen; found = lemmas.latest_is_found seen; gate = named_at_gate seen }
