use Rattle.convoy.proofs.PageLawsLemmas.StopLemmas.{front_may_be_all, front_with_chain}
use Rattle.convoy.proofs.PageLawsLemmas.TakenLemmas.{pages_may_be_all}
use Rattle.convoy.proofs.page_laws.stop.stop_is_right.Goals as goal

pub returns : goal.returns
returns c = record { front_may_be_all = front_may_be_all; front_with_chain = front_with_chain; pages_may_be_all = pages_may_be_all }
