use Rattle.wire_session.proofs.StandLemmas.{open_is_bounded}
use Rattle.wire_session.proofs.session.Session.ended.Goals as goal

pub returns-clause-bounded : goal.returns-clause-bounded
returns-clause-bounded c = open_is_bounded c.args.self.now
