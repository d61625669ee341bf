use Rattle.std.proofs.Common.{◌≡◌, length}
use Rattle.gtfs_rows.specs.Spaces.{without_first_spaces}
use Rattle.gtfs_rows.proofs.spaces.without_first_spaces.Given as goal

abbrev pub invariant-loop-text : goal.invariant-loop-text
invariant-loop-text l = without_first_spaces l.text ≡ without_first_spaces l.fn.text

abbrev pub decreases-loop-text : goal.decreases-loop-text
decreases-loop-text l = length l.text
