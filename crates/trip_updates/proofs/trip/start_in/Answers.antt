use Rattle.std.proofs.Common.{Some, None, refl, sym, ◌∙◌}
use Rattle.lc_time.specs.Clock.{SaysGtfsTime, gtfs_time_said}
use Rattle.lc_time.proofs.SaidLemmas.{times_said}
use Rattle.trip_updates.proofs.SaidLemmas.{said_is, said_there, some}
use Rattle.trip_updates.proofs.trip.start_in.Goals as goal

pub returns-in_err-start : goal.returns-in_err-start
returns-in_err-start c =
    let text = c.args.text.now in
    let read = said_is (SaysGtfsTime text) (gtfs_time_said text) c.read_gtfs_time.result (times_said text) c.read_gtfs_time.ensures.said c.read_gtfs_time.ensures.exact in
    rw c.from_residual.ensures (said_there gtfs_time_said (Some text) text None refl (some text (sym c.is_empty.ensures ∙ c.if-is_empty.false)) (sym c.in_err-start.was ∙ read))

pub returns : goal.returns
returns c =
    let text = c.args.text.now in
    let read = said_is (SaysGtfsTime text) (gtfs_time_said text) c.read_gtfs_time.result (times_said text) c.read_gtfs_time.ensures.said c.read_gtfs_time.ensures.exact in
    said_there gtfs_time_said (Some text) text (Some c.in_ok-start.start) refl (some text (sym c.is_empty.ensures ∙ c.if-is_empty.false)) (sym c.in_ok-start.was ∙ read)
