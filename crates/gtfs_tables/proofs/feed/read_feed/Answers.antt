use Rattle.gtfs_tables.proofs.ReportedLemmas.{reportable, reported_so}
use Rattle.gtfs_tables.proofs.feed.read_feed.Goals as goal

pub fault_of-requires : goal.fault_of-requires
fault_of-requires g c = reportable _ _ c.args.feed.now c.in-Err.end c.in-Err.ensures.ends

pub returns-in-Err-clause-ends : goal.returns-in-Err-clause-ends
returns-in-Err-clause-ends g c =
    reported_so _ _ c.args.feed.now c.in-Err.end c.faults-before.result c.faults-after.result c.fault_of.result c.in-Err.ensures.ends
    c.faults-before.ensures c.faults-after.ensures c.fault_of.ensures
