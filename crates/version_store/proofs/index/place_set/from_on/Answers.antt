use Rattle.std.proofs.Common.{rules}
use Rattle.std.proofs.lemmas.List.Sorted.{IsPartitionPoint-from_clause}
use Rattle.version_store.proofs.IndexLemmas.PlaceLemmas.{from_point, leaves_before, parted}
use Rattle.version_store.proofs.index.place_set.from_on.Goals as goal

pub returns : goal.returns
returns c =
    let places = c.args.places.now in
    let found = c.partition_point-begin.ensures in
    let point = IsPartitionPoint-from_clause (leaves_before c.args.from) places c.partition_point-begin.result found.partitioned (parted places c.args.from c.requires) (λ a r q k. search rules) in
    from_point places c.args.from c.partition_point-begin.result found.bound point
