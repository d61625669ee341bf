use Rattle.std.proofs.Common.{rules}
use Rattle.csv.specs.Records.{fields_of}
use Rattle.gtfs_rows.proofs.StoreLemmas.{length-cut_records}
use Rattle.gtfs_rows.proofs.records.Records.len.Goals as goal

pub returns : goal.returns
returns c =
    let size = length-cut_records 0 c.self.inside.ends.items (fields_of c.self.inside.fields) in
    rw (← c.self.view_is, size) (search rules)
