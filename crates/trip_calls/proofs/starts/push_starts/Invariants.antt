use Rattle.std.proofs.Common.{◌-◌}
use Rattle.trip_calls.proofs.StartLemmas.{AreGrowing}
use Rattle.trip_calls.proofs.starts.push_starts.Given as goal

abbrev pub invariant-starts : goal.invariant-starts
invariant-starts l = AreGrowing l.span l.initial.starts.items l.starts.items l.start

abbrev pub decreases-starts : goal.decreases-starts
decreases-starts l = l.span.to - l.start
