use Rattle.std.proofs.Common.{◌≡◌, sym, ap, ◌∙◌}
use Rattle.publisher.specs.Held.{side_of}
use Rattle.wire_session.specs.Stands.{Held}
use Rattle.wire_session.specs.declared.phase.Phase.TheVariants.{Ended, Spent}
use Rattle.wire_session.proofs.SessionLemmas.{ended_drops, spent_drops}
use Rattle.wire_session.proofs.session.Session.feed.Goals as goal

pub returns-in-Ended-clause-stands : goal.returns-in-Ended-clause-stands
returns-in-Ended-clause-stands g c =
    let held = c.args.self.now in
    let is : held.phase ≡ Ended = sym (ap (λ (h : Held). h.phase) c.self.view_is) ∙ c.in-Ended.is in
    λ start fed sent. ended_drops held start fed sent (side_of g.G.Fragmenter.cuts_of c.args.publisher.now) c.args.piece.now is

pub returns-in-Spent-clause-stands : goal.returns-in-Spent-clause-stands
returns-in-Spent-clause-stands g c =
    let held = c.args.self.now in
    let is : held.phase ≡ Spent = sym (ap (λ (h : Held). h.phase) c.self.view_is) ∙ c.in-Spent.is in
    λ start fed sent. spent_drops held start fed sent (side_of g.G.Fragmenter.cuts_of c.args.publisher.now) c.args.piece.now is
