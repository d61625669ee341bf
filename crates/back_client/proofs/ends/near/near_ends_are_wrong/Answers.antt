use Rattle.back_client.proofs.EndsLemmas.NearLemmas as lemmas
use Rattle.back_client.proofs.ends.near.near_ends_are_wrong.Goals as goal

pub returns : goal.returns
returns g c =
    let seen = g.L.Link.seen in
    record {
      earlier = lemmas.not_earlier seen;
      none = lemmas.not_none seen;
      page_more = lemmas.not_one_page_more;
      page_less = lemmas.not_one_page_less;
      exchange_more = lemmas.not_one_exchange_more seen;
      version = lemmas.not_another_version seen;
    }
