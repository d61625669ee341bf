use Rattle.std.proofs.Common.{length, sym}
use Rattle.csv.proofs.RecordFacts.{field-bounds}
use Rattle.csv.specs.Records.{fields_of}
use Rattle.gtfs_rows.proofs.StoreLemmas.{length-record, record_there}
use Rattle.gtfs_rows.proofs.records.Records.width.Goals as goal

pub bounds-start-requires : goal.bounds-start-requires
bounds-start-requires c = rw c.as_slice.ensures.value (record_there c.self.inside.ends.items (fields_of c.self.inside.fields) c.args.self.now c.args.place c.self.view_is c.requires)

pub overflow_sub-result : goal.overflow_sub-result
overflow_sub-result c =
    let there = record_there c.self.inside.ends.items (fields_of c.self.inside.fields) c.args.self.now c.args.place c.self.view_is c.requires in
    let b = field-bounds 0 c.self.inside.ends.items (length (fields_of c.self.inside.fields)) c.args.place c.self.invariant there in
    let start = rw c.as_slice.ensures.value at c.bounds-start.ensures.start in
    let end = rw c.as_slice.ensures.value at c.bounds-start.ensures.end in
    rw (start, end) b.0

pub returns : goal.returns
returns c =
    let there = record_there c.self.inside.ends.items (fields_of c.self.inside.fields) c.args.self.now c.args.place c.self.view_is c.requires in
    let start = rw c.as_slice.ensures.value at c.bounds-start.ensures.start in
    let end = rw c.as_slice.ensures.value at c.bounds-start.ensures.end in
    rw (← c.self.view_is, start, end) (sym (length-record c.self.inside.ends.items (fields_of c.self.inside.fields) c.args.place c.self.invariant there))
