use Rattle.std.proofs.Common.{◌≡◌, ◌+◌, ◌<◌, ℕ, Some, length, reverse}
use Rattle.std.specs.Option.{option_map_or}
use Rattle.csa_scan.specs.RidesTo.{LeadsOn}
use Rattle.csa_scan.proofs.journey.rides_to.Given as goal

abbrev pub invariant-loop-after : goal.invariant-loop-after
invariant-loop-after l = record {
  within : (k : ℕ) → l.after ≡ Some k → k < length l.arrivals;
  leads : LeadsOn l.stops l.runs l.arrivals l.place l.after (reverse l.rides.items);
}

abbrev pub decreases-loop-after : goal.decreases-loop-after
decreases-loop-after l = option_map_or (λ (k : ℕ). k + 1) l.after 0
