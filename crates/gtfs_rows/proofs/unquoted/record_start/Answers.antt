use Rattle.std.proofs.Common.{◌∙◌, sym}
use Rattle.gtfs_rows.proofs.UnquotedLemmas.{passes}
use Rattle.gtfs_rows.proofs.unquoted.record_start.Goals as goal

pub bytes-preserved : goal.bytes-preserved
bytes-preserved c = c.bytes.invariant ∙ passes c.args.text.now c.bytes.place c.bytes-test.true (sym c.is_line_end.ensures ∙ c.if-not-is_line_end.false)
