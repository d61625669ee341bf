use Rattle.cli_serve.proofs.SameBytesLemmas.{not_one_more, not_one_taker, not_other_base}
use Rattle.cli_serve.proofs.laws.near_sides.Goals as goal

pub returns : goal.returns
returns c = record { more = not_one_more; taker = not_one_taker; base = not_other_base }
