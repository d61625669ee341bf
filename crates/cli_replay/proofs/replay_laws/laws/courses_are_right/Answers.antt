use Rattle.convoy.proofs.ClientLawsLemmas.WantsLemmas.{wants_stay}
use Rattle.cli_replay.proofs.ReplayLawsLemmas.FinishesLemmas.{finishes}
use Rattle.cli_replay.proofs.ReplayLawsLemmas.PlaysLemmas.{plays_right}
use Rattle.cli_replay.proofs.ReplayLawsLemmas.TurnsLemmas.{turns}
use Rattle.cli_replay.proofs.replay_laws.laws.courses_are_right.Goals as goal

pub returns : goal.returns
returns g c =
    let seen = g.L.Link.seen in
    let agree = c.agreement_begins.ensures in
    let keeps = c.turns_keep_agreement.ensures in
    plays_right seen agree.none agree.added agree.later wants_stay
    (λ made publishing cache start. turns seen made publishing cache (seen start) keeps.turn)
    (λ made publishing all cache played ended start behind after lines ends met front of_clients played_to rounds have_ended met_in replied.
    finishes seen made publishing cache all played ended (seen start) behind after lines ends met front played_to rounds have_ended met_in replied keeps.rounds)
