use Rattle.service_days.proofs.OneZoneLemmas.{one_zone}
use Rattle.service_days.proofs.laws.one_zone_a_word.Goals as goal

pub returns : goal.returns
returns c = one_zone
