use Rattle.std.proofs.Common.{◌≡◌, ◌≤◌, ◌++◌, [], ◌∷◌, arith, length, rules}
use Rattle.csv.specs.Records.{fields_of, partial_of}
use Rattle.gtfs_rows.specs.Unquoted.{AddsRecord}
use Rattle.gtfs_rows.proofs.UnquotedLemmas.{at_some, filling_done, filling_more, filling_start}
use Rattle.gtfs_rows.proofs.unquoted.fill_unquoted.Goals as goal

pub records-init : goal.records-init
records-init c =
    let start = c.record_start-at.ensures in
    rw c.requires.none (filling_start c.args.text.now c.record_start-at.result c.args.fields.now start.high start.begun start.same c.requires.empty c.requires.partial)

pub records-preserved : goal.records-preserved
records-preserved c =
    let text = c.args.text.now in
    let new = c.add_record.new.fields in
    let start = c.record_start-at-in-records.ensures in
    let adds = at_some (λ end. AddsRecord text c.records.at end (fields_of c.records.fields) (fields_of new)) c.in_ok-end.field-0 c.in-Some.end c.in-Some.is c.in_ok-end.ensures.adds in
    let closed = at_some (λ _. partial_of new ≡ []) c.in_ok-end.field-0 c.in-Some.end c.in-Some.is c.in_ok-end.ensures.partial in
    let pushed : c.push.new.self.items ≡ c.records.ends.items ++ c.len.result ∷ [] = search rules in
    filling_more text c.records.at c.in-Some.end c.record_start-at-in-records.result c.records.ends.items c.push.new.self.items c.records.fields new c.len.result c.records.invariant adds closed c.len.ensures pushed
    start.high start.begun start.same

pub returns-clause-records : goal.returns-clause-records
returns-clause-records c =
    let past : length c.args.text.now ≤ c.records.at = omega arith in
    λ _. filling_done c.args.text.now c.records.at c.records.ends.items c.records.fields c.records.invariant past
