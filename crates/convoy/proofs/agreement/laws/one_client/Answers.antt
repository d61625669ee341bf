use Rattle.convoy.proofs.AgreementLemmas.OneClientLemmas.{one_client_ends_right}
use Rattle.convoy.proofs.agreement.laws.one_client.Goals as goal

pub returns : goal.returns
returns g c = one_client_ends_right c.steps_keep_agreement.ensures.begins g.L.Link.seen
