use Rattle.std.proofs.Common.{take, ap}
use Rattle.cli_serve.proofs.FedLemmas.{fed_still}
use Rattle.cli_serve.proofs.serving.ServingTalk.sent.Goals as goal
use Rattle.wire_session.specs.Stands.{Held}

pub invariant_of-self : goal.invariant_of-self
invariant_of-self g c =
    fed_still g.G.Fragmenter.cuts_of c.self.inside.session c.sent.new.self c.self.inside.publisher c.self.inside.count (take c.args.count c.self.inside.session.pending)
    c.self.invariant (ap (λ (h : Held). h.phase) c.sent.ensures.same) c.sent.ensures.stands
