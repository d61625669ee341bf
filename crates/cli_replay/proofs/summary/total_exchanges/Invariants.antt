use Rattle.std.proofs.Common.{◌≡◌, take}
use Rattle.cli_replay.specs.Summary.{exchanges_of}
use Rattle.cli_replay.proofs.summary.total_exchanges.Given as goal

abbrev pub invariant-ends : goal.invariant-ends
invariant-ends l = l.total ≡ exchanges_of (take l.end-index l.ends)
