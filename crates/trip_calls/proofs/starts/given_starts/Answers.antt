use Rattle.trip_calls.proofs.StartLemmas.{given_same}
use Rattle.trip_calls.proofs.starts.given_starts.Goals as goal

pub returns : goal.returns
returns c = record {
  all = given_same c.args.spans.now c.in_ok-starts.starts.items c.leave_once.new.starts.items c.leave_once.ensures.same c.in_ok-starts.ensures;
  once = c.leave_once.ensures.once;
}
