use Rattle.std.proofs.Common.{◌≡◌, ◌-◌, ◌+◌, [], length}
use Rattle.csv.specs.Records.{fields_of, partial_of}
use Rattle.gtfs_rows.proofs.UnquotedLemmas.{IsAdding}
use Rattle.gtfs_rows.proofs.unquoted.add_record.Given as goal

abbrev pub invariant-fields : goal.invariant-fields
invariant-fields l = IsAdding l.text l.start l.at (fields_of l.initial.fields) (fields_of l.fields) × (partial_of l.fields ≡ [])

abbrev pub decreases-fields : goal.decreases-fields
decreases-fields l = length l.text + 1 - l.at
