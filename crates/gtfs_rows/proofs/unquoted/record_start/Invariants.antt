use Rattle.std.proofs.Common.{◌≡◌}
use Rattle.gtfs_rows.specs.Unquoted.{record_from}
use Rattle.gtfs_rows.proofs.unquoted.record_start.Given as goal

abbrev pub invariant-bytes : goal.invariant-bytes
invariant-bytes l = record_from l.text l.from ≡ record_from l.text l.place
