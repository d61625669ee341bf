use Rattle.service_days.proofs.OrderLemmas.{search_finds}
use Rattle.service_days.proofs.listing.is_among.Goals as goal

pub returns : goal.returns
returns c =
    search_finds c.args.sorted.now c.args.day.now c.binary_search.result c.is_ok.result c.requires c.binary_search.ensures.bound c.binary_search.ensures.position c.is_ok.ensures.value
