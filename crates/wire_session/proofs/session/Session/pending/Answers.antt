use Rattle.wire_session.proofs.StandLemmas.{stands_means}
use Rattle.wire_session.proofs.session.Session.pending.Goals as goal

pub returns-clause-means : goal.returns-clause-means
returns-clause-means c = stands_means c.args.self.now
