use Rattle.rounds_client.proofs.EndsLemmas.EndLemmas as lemmas
use Rattle.rounds_client.proofs.EndsLemmas.NamedLemmas.{named_at_gate}
use Rattle.rounds_client.proofs.ends.laws.fewest_ends_right.Goals as goal

pub returns : goal.returns
returns g c =
    let begins = c.steps_keep_agreement.ensures.begins in
    let law = c.fewest_at_version.ensures.needed in
    let seen = g.L.Link.seen in
    record { right = lemmas.fewest_ends_right begins law seen; found = lemmas.fewest_is_found begins law seen; gate = named_at_gate begins seen }
