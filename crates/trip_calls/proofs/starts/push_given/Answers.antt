use Rattle.std.proofs.Common.{refl}
use Rattle.trip_calls.proofs.StartLemmas.{given_push}
use Rattle.trip_calls.proofs.starts.push_given.Goals as goal

pub given-preserved : goal.given-preserved
given-preserved c =
    given_push c.args.starts.now.items c.given.starts.items c.push.new.self.items _ c.args.given.now c.given.seconds-index c.in_ok-push.ensures.items refl c.given-test.true c.given.invariant
