use Rattle.std.proofs.Common.{◌++◌, sym, ap, subst}
use Rattle.publisher.specs.Held.{Held, side_of}
use Rattle.cli_serve.specs.Said.{left_by}
use Rattle.cli_serve.specs.Serving.{ServingState}
use Rattle.wire_session.specs.Phase.{is_ended}
use Rattle.wire_session.specs.Stands.{IsOutput, Means}
use Rattle.wire_session.proofs.StandLemmas.{stands_means}
use Rattle.cli_serve.proofs.serving.Serving.into_publisher.Goals as goal

pub returns-clause-left : goal.returns-clause-left
returns-clause-left g c = λ start fed sent stands.
    let same = ap (λ (s : ServingState g.row.G.Denot). s.publisher) (sym c.self.view_is) in
    subst (λ (p : Held g.row.G.Denot). IsOutput start fed (sent ++ c.args.self.session.pending) c.args.self.session.requests (side_of g.G.Fragmenter.cuts_of p)
    (is_ended c.args.self.session.phase)) same
    (left_by g.G.Fragmenter.cuts_of c.args.self start fed sent stands)

pub returns-clause-means : goal.returns-clause-means
returns-clause-means g c = λ start fed sent stands.
    let same = ap (λ (s : ServingState g.row.G.Denot). s.publisher) (sym c.self.view_is) in
    subst (λ (p : Held g.row.G.Denot). Means c.args.self.session start fed sent (side_of g.G.Fragmenter.cuts_of p)) same
    (stands_means c.args.self.session start fed sent (side_of g.G.Fragmenter.cuts_of c.args.self.publisher) stands)
