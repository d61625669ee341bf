use Rattle.back_client.proofs.EndsLemmas.BackLemmas.{pages_back_may_be_all}
use Rattle.back_client.proofs.ends.needed.pages_back_may_be_all.Goals as goal

pub returns : goal.returns
returns c = pages_back_may_be_all
