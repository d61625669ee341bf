use Rattle.service_days.proofs.ListedLemmas.{one_list_of_days}
use Rattle.service_days.proofs.laws.one_list_of_days.Goals as goal

pub returns : goal.returns
returns c = one_list_of_days
