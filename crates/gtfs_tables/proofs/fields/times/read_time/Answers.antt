use Rattle.lc_time.specs.Clock.{SaysGtfsTime, gtfs_time_said}
use Rattle.lc_time.proofs.SaidLemmas.{times_said}
use Rattle.gtfs_tables.proofs.FieldsLemmas.Said.{said_is}
use Rattle.gtfs_tables.proofs.fields.times.read_time.Goals as goal

pub returns : goal.returns
returns c =
    let text = c.args.text.now in
    said_is (SaysGtfsTime text) (gtfs_time_said text) c.read_gtfs_time.result (times_said text) c.read_gtfs_time.ensures.said c.read_gtfs_time.ensures.exact
