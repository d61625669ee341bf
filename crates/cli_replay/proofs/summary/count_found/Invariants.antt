use Rattle.std.proofs.Common.{◌≡◌, ◌≤◌, take}
use Rattle.cli_replay.specs.Summary.{found_in}
use Rattle.cli_replay.proofs.summary.count_found.Given as goal

abbrev pub invariant-ends : goal.invariant-ends
invariant-ends l = record {
  counted : l.found ≡ found_in (take l.end-index l.ends);
  within : l.found ≤ l.end-index;
}
