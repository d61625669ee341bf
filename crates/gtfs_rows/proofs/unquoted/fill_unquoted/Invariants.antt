use Rattle.std.proofs.Common.{◌-◌, length}
use Rattle.gtfs_rows.proofs.UnquotedLemmas.{IsFilling}
use Rattle.gtfs_rows.proofs.unquoted.fill_unquoted.Given as goal

abbrev pub invariant-records : goal.invariant-records
invariant-records l = IsFilling l.text l.at l.ends.items l.fields

abbrev pub decreases-records : goal.decreases-records
decreases-records l = length l.text - l.at
