-- A stable sort leaves the first row between two stops the first.
use Rattle.std.proofs.Common.{rules}
use Rattle.lc_model.proofs.OrdersLemmas.{IsSorted-from_closure}
use Rattle.change_table.specs.Rows.{row_cmp}
use Rattle.change_table.proofs.RowLemmas.{AreSortedRows-sorted, IsStable-from_closure, row_cmp_total}
use Rattle.change_table.proofs.rows.sorted_rows.Goals as goal

pub returns : goal.returns
returns c =
    let rows = c.in_ok-rows.rows.items in
    let sorted = c.sort_by.new.self.items in
    AreSortedRows-sorted c.args.transfers.now rows sorted c.in_ok-rows.ensures c.sort_by.ensures.permutation
    (IsSorted-from_closure row_cmp row_cmp_total sorted c.in_ok-sort_by.ensures.sorted (λ f a r f' k. search rules))
    (IsStable-from_closure row_cmp row_cmp_total rows sorted c.sort_by.ensures.stable (λ f a r f' k. search rules))
