use Rattle.cli_replay.proofs.ReplayLawsLemmas.CausedEndsLemmas.{courses_caused}
use Rattle.cli_replay.proofs.replay_laws.laws.courses_are_caused.Goals as goal

pub returns : goal.returns
returns g c = courses_caused g.L.Link.seen
