use Rattle.wire_session.proofs.SessionLemmas.{fresh_is, made_stands}
use Rattle.wire_session.proofs.session.Session.new.Goals as goal

pub returns-clause-stands : goal.returns-clause-stands
returns-clause-stands c =
    made_stands c.new-3.result c.new-2.result.items c.in_ok-new.field-0.waits_for c.new-3.ensures c.new-2.ensures.items c.in_ok-new.ensures

pub returns-clause-fresh : goal.returns-clause-fresh
returns-clause-fresh c =
    fresh_is c.new-3.result c.new-2.result.items c.in_ok-new.field-0.waits_for c.new-3.ensures c.new-2.ensures.items c.in_ok-new.ensures
