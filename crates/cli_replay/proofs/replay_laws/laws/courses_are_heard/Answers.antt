use Rattle.cli_replay.proofs.ReplayLawsLemmas.HeardLemmas.{plays_heard}
use Rattle.cli_replay.proofs.replay_laws.laws.courses_are_heard.Goals as goal

pub returns : goal.returns
returns g c = plays_heard g.L.Link.seen
