-- A sort only moves the children.
use Rattle.std.proofs.Common.{rules}
use Rattle.lc_model.proofs.OrdersLemmas.{IsSorted-from_closure}
use Rattle.change_table.specs.Partners.{child_cmp}
use Rattle.change_table.proofs.PartnerLemmas.{AreChildren-moved, child_cmp_total}
use Rattle.change_table.proofs.children.children_of.Goals as goal

pub returns-clause-all : goal.returns-clause-all
returns-clause-all c =
    AreChildren-moved c.args.stops.now c.in_ok-children.children.items c.sort_unstable_by.new.self.items c.in_ok-children.ensures c.sort_unstable_by.ensures.permutation

pub returns-clause-sorted : goal.returns-clause-sorted
returns-clause-sorted c =
    IsSorted-from_closure child_cmp child_cmp_total c.sort_unstable_by.new.self.items c.sort_unstable_by.ensures.sorted (λ f a r f' k. search rules)
