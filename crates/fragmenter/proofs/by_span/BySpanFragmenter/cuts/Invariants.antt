use Rattle.std.proofs.Common.{◌≡◌, ◌++◌, drop}
use Rattle.fragmenter.specs.Ways.{span_cuts, span_cuts_behind}
use Rattle.fragmenter.proofs.by_span.BySpanFragmenter.cuts.Given as goal

abbrev pub invariant-loop-departure : goal.invariant-loop-departure
invariant-loop-departure l = l.cuts.items ++ span_cuts_behind l.self.seconds l.before (drop l.departure-index l.departures) ≡ span_cuts l.self.seconds l.departures
