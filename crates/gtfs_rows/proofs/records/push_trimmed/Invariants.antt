use Rattle.std.proofs.Common.{◌≡◌, ◌++◌, [], map, take}
use Rattle.csv.specs.Records.{fields_of, partial_of}
use Rattle.gtfs_rows.specs.Spaces.{without_spaces}
use Rattle.gtfs_rows.proofs.records.push_trimmed.Given as goal

abbrev pub invariant-fields : goal.invariant-fields
invariant-fields l =
    (fields_of l.fields ≡ fields_of l.initial.fields ++ map without_spaces (take l.place (fields_of l.row)))
    × (partial_of l.fields ≡ [])
