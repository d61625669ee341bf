use Rattle.rounds_client.proofs.EndsLemmas.NearLemmas as lemmas
use Rattle.rounds_client.proofs.ends.near.near_ends_are_wrong.Goals as goal

pub returns : goal.returns
returns g c =
    let needed = c.one_answer.ensures.needed in
    let alike = c.fewest_at_version.ensures.alike in
    let seen = g.L.Link.seen in
    record {
      ride_more = lemmas.not_one_ride_more needed alike seen;
      ride_fewer = lemmas.not_one_ride_fewer needed alike seen;
      none = lemmas.not_none needed alike seen;
      exchange_more = lemmas.not_one_exchange_more needed alike seen;
      version = lemmas.not_another_version seen;
    }
