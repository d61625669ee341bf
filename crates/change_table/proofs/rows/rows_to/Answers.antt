-- Between the two places are exactly the rows to the stop.
use Rattle.std.proofs.Common.{sym, rules}
use Rattle.std.proofs.lemmas.List.Sorted.{IsPartitionPoint-from_clause}
use Rattle.lc_model.proofs.RangesLemmas.{is_before, is_not_after, AreBounds-found, bounds_rise, filter_is_between}
use Rattle.change_table.specs.Rows.{target}
use Rattle.change_table.proofs.rows.rows_to.Goals as goal

pub slice_bounds-result-count : goal.slice_bounds-result-count
slice_bounds-result-count c =
    let first = c.partition_point-first.ensures in
    let end = c.partition_point-end.ensures in
    bounds_rise _ _ _ _ _ (AreBounds-found target c.args.rows.now c.args.to.now _ _ first.bound end.bound c.requires
    (λ parted. IsPartitionPoint-from_clause (is_before target c.args.rows.now c.args.to.now) _ _ first.partitioned parted (λ a r q k. search rules))
    (λ parted. IsPartitionPoint-from_clause (is_not_after target c.args.rows.now c.args.to.now) _ _ end.partitioned parted (λ a r q k. search rules)))

pub slice_bounds-result-start : goal.slice_bounds-result-start
slice_bounds-result-start c = let le = slice_bounds-result-count c in search rules

pub returns : goal.returns
returns c =
    let first = c.partition_point-first.ensures in
    let end = c.partition_point-end.ensures in
    let are = AreBounds-found target c.args.rows.now c.args.to.now _ _ first.bound end.bound c.requires
    (λ parted. IsPartitionPoint-from_clause (is_before target c.args.rows.now c.args.to.now) _ _ first.partitioned parted (λ a r q k. search rules))
    (λ parted. IsPartitionPoint-from_clause (is_not_after target c.args.rows.now c.args.to.now) _ _ end.partitioned parted (λ a r q k. search rules)) in
    sym (filter_is_between target c.args.rows.now c.args.to.now _ _ (bounds_rise _ _ _ _ _ are) are)
