use Rattle.gtfs_tables.proofs.FeedLaws.{never_both, one_first}
use Rattle.gtfs_tables.proofs.OneTablesLaws.{one_tables}
use Rattle.gtfs_tables.proofs.laws.one_feed.Goals as goal

pub returns : goal.returns
returns c = record { tables = one_tables; first = one_first; never_both = never_both }
