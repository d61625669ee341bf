use Rattle.std.proofs.Common.{◌≡◌, ◌+◌, drop}
use Rattle.cli_replay.specs.Summary.{arrivals_of}
use Rattle.cli_replay.proofs.summary.total_arrivals.Given as goal

-- the sum so far, and what is left
abbrev pub invariant-clients : goal.invariant-clients
invariant-clients l = l.total + arrivals_of (drop l.index l.leaves) (drop l.index l.ends) ≡ arrivals_of l.leaves l.ends
