use Rattle.back_client.proofs.EndsLemmas.BackLemmas.{one_list_of_needed_back}
use Rattle.back_client.proofs.ends.needed.one_list_of_needed_back.Goals as goal

pub returns : goal.returns
returns c = one_list_of_needed_back
