-- What holds of a relay holds of a new one.
use Rattle.page_relay.proofs.FollowsLemmas.{relayed_first}
use Rattle.page_relay.proofs.relay.Relay.new.Goals as goal

pub invariant_of-result : goal.invariant_of-result
invariant_of-result g c =
    rw (c.in-Ok.ensures.new, c.of-made.ensures, c.new-in-Ok.ensures) (relayed_first c.args.base c.args.entries (g.L.Link.seen c.args.inner).recorded)
