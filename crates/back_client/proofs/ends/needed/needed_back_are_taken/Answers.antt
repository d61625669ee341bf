use Rattle.back_client.proofs.EndsLemmas.TakenLemmas.{takes_the_needed_back}
use Rattle.back_client.proofs.ends.needed.needed_back_are_taken.Goals as goal

pub returns : goal.returns
returns c = takes_the_needed_back
