use Rattle.std.proofs.Common.{◌≡◌, ◌≤◌, ◌++◌, drop}
use Rattle.fragmenter.specs.Ways.{count_cuts, count_cuts_behind}
use Rattle.fragmenter.proofs.by_count.ByCountFragmenter.cuts.Given as goal

abbrev pub invariant-loop-departure : goal.invariant-loop-departure
invariant-loop-departure l = record {
  are : l.cuts.items ++ count_cuts_behind l.self.count l.on_page l.before (drop l.departure-index l.departures) ≡ count_cuts l.self.count l.departures;
  few : l.on_page ≤ l.departure-index;
}
