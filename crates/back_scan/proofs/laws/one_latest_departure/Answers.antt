use Rattle.back_scan.proofs.OneLatestLemmas.{one_latest_departure, one_list_latest}
use Rattle.back_scan.proofs.laws.one_latest_departure.Goals as goal

pub returns : goal.returns
returns c = record { journeys = one_latest_departure; chains = one_list_latest }
