-- Between the two places are exactly the items of the key.
use Rattle.std.proofs.Common.{sym, rules}
use Rattle.std.proofs.lemmas.List.Sorted.{IsPartitionPoint-from_clause}
use Rattle.lc_model.proofs.RangesLemmas.{is_before, is_not_after, AreBounds-found, bounds_rise, filter_is_between}
use Rattle.lc_model.proofs.keyed.items_of.Goals as goal

pub slice_bounds-result-count : goal.slice_bounds-result-count
slice_bounds-result-count g c =
    let first = c.partition_point-first.ensures in
    let end = c.partition_point-end.ensures in
    bounds_rise _ _ _ _ _ (AreBounds-found g.T.Keyed.key c.args.items.now c.args.key.now _ _ first.bound end.bound c.requires
    (λ parted. IsPartitionPoint-from_clause (is_before g.T.Keyed.key c.args.items.now c.args.key.now) _ _ first.partitioned parted (λ a r q k. search rules))
    (λ parted. IsPartitionPoint-from_clause (is_not_after g.T.Keyed.key c.args.items.now c.args.key.now) _ _ end.partitioned parted (λ a r q k. search rules)))

pub slice_bounds-result-start : goal.slice_bounds-result-start
slice_bounds-result-start g c = let le = slice_bounds-result-count g c in search rules

pub returns : goal.returns
returns g c =
    let first = c.partition_point-first.ensures in
    let end = c.partition_point-end.ensures in
    let are = AreBounds-found g.T.Keyed.key c.args.items.now c.args.key.now _ _ first.bound end.bound c.requires
    (λ parted. IsPartitionPoint-from_clause (is_before g.T.Keyed.key c.args.items.now c.args.key.now) _ _ first.partitioned parted (λ a r q k. search rules))
    (λ parted. IsPartitionPoint-from_clause (is_not_after g.T.Keyed.key c.args.items.now c.args.key.now) _ _ end.partitioned parted (λ a r q k. search rules)) in
    sym (filter_is_between g.T.Keyed.key c.args.items.now c.args.key.now _ _ (bounds_rise _ _ _ _ _ are) are)
