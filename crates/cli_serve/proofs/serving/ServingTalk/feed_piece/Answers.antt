use Rattle.cli_serve.proofs.FedLemmas.{fed_more}
use Rattle.cli_serve.proofs.serving.ServingTalk.feed_piece.Goals as goal

pub invariant_of-self-then-not-ended : goal.invariant_of-self-then-not-ended
invariant_of-self-then-not-ended g c =
    fed_more g.G.Fragmenter.cuts_of c.self.inside.session c.feed.new.self c.self.inside.publisher c.feed.new.publisher c.self.inside.count c.args.piece.now
    c.self.invariant c.in_ok-feed.ensures.dropped c.in_ok-feed.ensures.stands
