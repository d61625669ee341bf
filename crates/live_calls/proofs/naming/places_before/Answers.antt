use Rattle.std.proofs.Common.{rules}
use Rattle.std.proofs.lemmas.List.Sorted.{IsPartitionPoint-from_clause}
use Rattle.live_calls.specs.Places.{is_before}
use Rattle.live_calls.proofs.PlacesLemmas.{is_before_stated, parted}
use Rattle.live_calls.proofs.naming.places_before.Goals as goal

pub returns-clause-point : goal.returns-clause-point
returns-clause-point c =
    let asked = c.args.asked in
    IsPartitionPoint-from_clause (λ p. is_before p asked) c.args.places.now c.partition_point.result c.partition_point.ensures.partitioned (parted c.args.places.now asked c.requires)
    (λ a r q k. let stated = is_before_stated a.0.now asked in search rules)
