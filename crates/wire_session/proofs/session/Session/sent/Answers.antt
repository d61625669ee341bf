use Rattle.std.proofs.Common.{List, ℕ, ◌++◌, take, sym, subst}
use Rattle.wire_session.specs.Session.{held_of}
use Rattle.wire_session.specs.Stands.{Held, Stands}
use Rattle.wire_session.proofs.SessionLemmas.{sent_stands}
use Rattle.wire_session.proofs.session.Session.sent.Goals as goal

pub returns-clause-stands : goal.returns-clause-stands
returns-clause-stands c =
    let before : Held = held_of c.self.inside in
    let left : List ℕ = c.take.new.self in
    λ start fed sent side stands.
    subst (λ (h : Held). Stands (record before { pending = left }) start fed (sent ++ take c.args.count h.pending) side) c.self.view_is
    (sent_stands before c.args.count left c.take.ensures start fed sent side
    (subst (λ (h : Held). Stands h start fed sent side) (sym c.self.view_is) stands))
