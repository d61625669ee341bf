use Rattle.std.proofs.Common.{◌∙◌, sym}
use Rattle.gtfs_rows.proofs.UnquotedLemmas.{runs_more, runs_none}
use Rattle.gtfs_rows.proofs.unquoted.field_end.Goals as goal

pub bytes-init : goal.bytes-init
bytes-init c = runs_none c.args.text.now c.args.start

pub bytes-preserved : goal.bytes-preserved
bytes-preserved c =
    runs_more c.args.text.now c.args.start c.bytes.place c.bytes.auto.place c.bytes-test.true c.bytes.invariant (sym c.ends_field.ensures ∙ c.if-ends_field.false)
