use Rattle.std.proofs.Common.{◌∙◌, inr, refl}
use Rattle.csv.specs.Records.{fields_of}
use Rattle.gtfs_rows.proofs.StoreLemmas.{reading_done, reading_more, reading_shorter, reading_start}
use Rattle.gtfs_rows.proofs.records.fill.Goals as goal

pub records-init : goal.records-init
records-init c =
    let set = c.from_reader-reader.ensures in
    let named = c.has_headers.ensures in
    let even = c.flexible.ensures in
    rw c.requires.none (reading_start
    c.args.bytes.now
    c.from_reader-reader.result
    c.args.fields.now
    (record {
      untrimmed = rw (even, named) at set.trim ∙ c.new.ensures.trim;
      ready = inr (inr (rw (even, named) at set.has_headers, set.headers));
      default = rw (even, named) at set.config ∙ c.new.ensures.config;
      flexible = rw even at set.flexible;
    })
    set.state
    set.source
    c.requires.empty
    c.requires.partial)

pub records-smaller : goal.records-smaller
records-smaller c =
    reading_shorter c.args.bytes.now c.records.reader c.add_next.new.reader c.records.ends.items c.records.fields (fields_of c.add_next.new.row) c.records.invariant
    (rw c.if-branch.true at c.in_ok-add_next.ensures.reads)

pub records-preserved : goal.records-preserved
records-preserved c =
    reading_more
    c.args.bytes.now
    c.records.reader
    c.add_next.new.reader
    c.records.ends.items
    c.add_next.new.ends.items
    c.records.fields
    c.add_next.new.fields
    (fields_of c.add_next.new.row)
    _
    c.records.invariant
    (rw c.if-branch.true at c.in_ok-add_next.ensures.reads)
    (c.in_ok-add_next.ensures.plain c.if-branch.true)
    (c.in_ok-add_next.ensures.fields c.if-branch.true)
    (c.in_ok-add_next.ensures.partial c.if-branch.true)
    refl
    (c.in_ok-add_next.ensures.ends c.if-branch.true)

pub returns-clause-records : goal.returns-clause-records
returns-clause-records c =
    let fields = c.in_ok-add_next.ensures.same_fields c.if-branch.false in
    let ends = c.in_ok-add_next.ensures.same_ends c.if-branch.false in
    rw (fields, ends) (reading_done c.args.bytes.now c.records.reader c.add_next.new.reader c.records.ends.items c.records.fields (fields_of c.add_next.new.row) c.records.invariant
    (rw c.if-branch.false at c.in_ok-add_next.ensures.reads))

pub returns-clause-rising : goal.returns-clause-rising
returns-clause-rising c =
    let fields = c.in_ok-add_next.ensures.same_fields c.if-branch.false in
    let ends = c.in_ok-add_next.ensures.same_ends c.if-branch.false in
    rw (fields, ends) c.records.invariant.store.rising
