use Rattle.std.proofs.Common.{◌<◌, ◌+◌, ◌^◌, sym, arith}
use Rattle.std.proofs.Math.Facts.{Fits-of_lt}
use Rattle.csv.specs.Records.{fields_of}
use Rattle.gtfs_rows.proofs.StoreLemmas.{field_within, get_or-record, record_there}
use Rattle.gtfs_rows.proofs.records.Records.field.Goals as goal

pub bounds-start-requires : goal.bounds-start-requires
bounds-start-requires c =
    rw c.as_slice.ensures.value (record_there c.self.inside.ends.items (fields_of c.self.inside.fields) c.args.self.now c.args.place c.self.view_is c.requires.record_there)

pub overflow_add-start : goal.overflow_add-start
overflow_add-start c =
    let there = record_there c.self.inside.ends.items (fields_of c.self.inside.fields) c.args.self.now c.args.place c.self.view_is c.requires.record_there in
    let column = rw (← c.self.view_is) at c.requires.field_there in
    let within = field_within c.self.inside.ends.items (fields_of c.self.inside.fields) c.args.place c.args.column c.self.invariant there column in
    let start = rw c.as_slice.ensures.value at c.bounds-start.ensures.start in
    let end = rw c.as_slice.ensures.value at c.bounds-start.ensures.end in
    let sum : c.bounds-start.result.0 + c.args.column < 2 ^ 64 = omega (arith, c.bounds-start.ensures.in_range) in
    Fits-of_lt sum

pub nth-requires : goal.nth-requires
nth-requires c =
    let there = record_there c.self.inside.ends.items (fields_of c.self.inside.fields) c.args.self.now c.args.place c.self.view_is c.requires.record_there in
    let column = rw (← c.self.view_is) at c.requires.field_there in
    let within = field_within c.self.inside.ends.items (fields_of c.self.inside.fields) c.args.place c.args.column c.self.invariant there column in
    let start = rw c.as_slice.ensures.value at c.bounds-start.ensures.start in
    rw start within.0

pub returns : goal.returns
returns c =
    let there = record_there c.self.inside.ends.items (fields_of c.self.inside.fields) c.args.self.now c.args.place c.self.view_is c.requires.record_there in
    let column = rw (← c.self.view_is) at c.requires.field_there in
    let start = rw c.as_slice.ensures.value at c.bounds-start.ensures.start in
    rw (← c.self.view_is, c.nth.ensures, start) (sym (get_or-record c.self.inside.ends.items (fields_of c.self.inside.fields) c.args.place c.args.column c.self.invariant there column))
