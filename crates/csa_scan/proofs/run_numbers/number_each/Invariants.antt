use Rattle.std.proofs.Common.{◌≤◌, length, take}
use Rattle.csa_scan.specs.Numbers.{AreNumbersOf, Extends}
use Rattle.csa_scan.proofs.run_numbers.number_each.Given as goal

abbrev pub invariant-loop-connection : goal.invariant-loop-connection
invariant-loop-connection l = record {
  each : AreNumbersOf l.runs (take l.connection-index l.list) l.numbers.items;
  grows : Extends l.initial.runs l.runs;
  no_shorter : length l.initial.runs ≤ length l.runs;
}
