use Rattle.gtfs_rows.proofs.StoreLemmas.{IsReading, unread}
use Rattle.gtfs_rows.proofs.records.fill.Given as goal

abbrev pub invariant-records : goal.invariant-records
invariant-records l = IsReading l.bytes l.reader l.ends.items l.fields

abbrev pub decreases-records : goal.decreases-records
decreases-records l = unread l.reader
