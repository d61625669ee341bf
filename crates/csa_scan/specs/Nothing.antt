-- What the progress of a scan keeps before it takes anything.
use Rattle.std.specs.Prelude.{ℕ, [], None, replicate}
use Rattle.csa_scan.specs.Kept.{Kept}

-- nothing is known of so many stops
abbrev pub nothing_of : ℕ → Kept
nothing_of stops = record {
  boardings = [];
  ready = replicate stops None;
  reached = replicate stops None;
  arrivals = [];
  best = None;
}
