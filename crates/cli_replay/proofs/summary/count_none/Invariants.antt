use Rattle.std.proofs.Common.{◌≡◌, ◌≤◌, take}
use Rattle.cli_replay.specs.Summary.{none_in}
use Rattle.cli_replay.proofs.summary.count_none.Given as goal

abbrev pub invariant-ends : goal.invariant-ends
invariant-ends l = record {
  counted : l.none ≡ none_in (take l.end-index l.ends);
  within : l.none ≤ l.end-index;
}
