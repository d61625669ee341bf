use Rattle.convoy.proofs.AgreementLemmas.RoundsLemmas.{end_agrees, rounds_agree}
use Rattle.convoy.proofs.AgreementLemmas.TurnLemmas.{turn_agrees}
use Rattle.convoy.proofs.agreement.laws.turns_keep_agreement.Goals as goal

pub returns : goal.returns
returns g c = record { turn = turn_agrees g.L.Link.seen; end = end_agrees g.L.Link.seen; rounds = rounds_agree g.L.Link.seen }
