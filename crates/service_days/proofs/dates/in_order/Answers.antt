use Rattle.std.proofs.Common.{rules}
use Rattle.std.specs.Cmp.Rules.{comparing}
use Rattle.std.proofs.lemmas.List.Filters.{dedup_is}
use Rattle.lc_model.proofs.OrdersLemmas.{IsSorted-from_closure}
use Rattle.service_days.specs.Days.{day_cmp}
use Rattle.service_days.proofs.ListedLemmas.{in_day_order}
use Rattle.service_days.proofs.OrderLemmas.{day_cmp_total, deduped, strictly}
use Rattle.service_days.proofs.dates.in_order.Goals as goal

pub returns-clause-same : goal.returns-clause-same
returns-clause-same c =
    let is = dedup_is _ _ _ c.dedup.ensures.filtered in
    deduped _ (λ x y. search (comparing, rules)) c.args.days.items c.sort_unstable_by.new.self.items c.dedup.new.self.items c.sort_unstable_by.ensures.permutation is

pub returns-clause-in_order : goal.returns-clause-in_order
returns-clause-in_order c =
    let is = dedup_is _ _ _ c.dedup.ensures.filtered in
    let up = IsSorted-from_closure day_cmp day_cmp_total _ c.sort_unstable_by.ensures.sorted (λ f a r f' k. search rules) in
    in_day_order c.dedup.new.self.items (strictly _ (λ x y. search (comparing, rules)) c.sort_unstable_by.new.self.items c.dedup.new.self.items up is)
