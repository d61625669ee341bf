use Rattle.std.proofs.Common.{rules}
use Rattle.lc_model.specs.Connection.{departure_cmp}
use Rattle.lc_model.specs.Totals.{departure_cmp_total}
use Rattle.lc_model.proofs.OrdersLemmas.{IsSorted-from_closure}
use Rattle.version_store.proofs.IndexLemmas.RowsLemmas.{rows_are, rows_forward}
use Rattle.version_store.proofs.index.rows.sorted_between.Goals as goal

pub returns-clause-are : goal.returns-clause-are
returns-clause-are c =
    let by_departure = IsSorted-from_closure departure_cmp departure_cmp_total c.sort_by.new.self.items c.in_ok-sort_by.ensures.sorted (λ f a r f' k. search rules) in
    rows_are c.args.version c.args.from c.args.to c.args.states.now c.args.places.now c.in_ok-list.list.items c.sort_by.new.self.items c.requires c.in_ok-list.ensures.apart
    c.in_ok-list.ensures.shown c.sort_by.ensures.permutation by_departure

pub returns-clause-forward : goal.returns-clause-forward
returns-clause-forward c =
    rows_forward c.args.version c.args.from c.args.to c.args.states.now c.args.places.now c.in_ok-list.list.items c.sort_by.new.self.items c.requires
    c.in_ok-list.ensures.shown c.sort_by.ensures.permutation
