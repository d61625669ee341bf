use Rattle.std.proofs.Common.{◌≡◌, ◌<◌, ℕ, [], false, get_or}
use Rattle.std.specs.Str.{bytes_eq}
use Rattle.gtfs_rows.proofs.records.Records.column.Given as goal

abbrev pub invariant-columns : goal.invariant-columns
invariant-columns l = (k : ℕ) → k < l.column → bytes_eq (get_or (get_or l.self 0 []) k []) l.name ≡ false
