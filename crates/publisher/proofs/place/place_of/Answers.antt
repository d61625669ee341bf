use Rattle.std.proofs.Common.{◌∙◌, ap, rules}
use Rattle.std.specs.Prelude.{nat_le}
use Rattle.std.proofs.lemmas.List.Sorted.{IsPartitionPoint-from_clause}
use Rattle.publisher.specs.Place.{place_at}
use Rattle.publisher.proofs.PointLemmas.{parted, place_at_point}
use Rattle.publisher.proofs.place.place_of.Goals as goal

pub returns : goal.returns
returns c =
    let cuts = c.args.cuts.now in
    let moment = c.args.moment in
    let point =
    IsPartitionPoint-from_clause (λ cut. nat_le cut moment) cuts c.partition_point-begun.result c.partition_point-begun.ensures.partitioned (parted cuts moment c.requires)
    (λ a r q k. search rules) in
    c.place_at.ensures ∙ ap (place_at cuts) c.saturating_sub.ensures ∙ place_at_point cuts moment c.partition_point-begun.result c.partition_point-begun.ensures.bound point
