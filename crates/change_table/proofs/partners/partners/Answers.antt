-- What is sorted and each once has the same places.
use Rattle.std.proofs.Common.{ℕ, List, subst, sym}
use Rattle.std.specs.List.Sorted.{IsStrictlyIncreasing}
use Rattle.std.proofs.lemmas.List.Filters.{dedup_is}
use Rattle.std.proofs.lemmas.Map.Keys.{IsStrictlyIncreasing-dedup}
use lib.Dec.{eqb}
use Rattle.change_table.specs.Partners.{Gains, named_ids}
use Rattle.change_table.proofs.PartnerLemmas.{Gains-dedup}
use Rattle.std.proofs.Common.{[]}
use Rattle.change_table.proofs.partners.partners.Goals as goal

pub returns-clause-all : goal.returns-clause-all
returns-clause-all c =
    let origin = c.args.origin.now in
    let ids = named_ids origin.stop.now origin.own.now origin.of_parent.now in
    let sorted = c.sort_unstable.new.self.items in
    subst (λ (v : List ℕ). Gains c.args.stops.now ids [] v) (sym (dedup_is eqb sorted c.dedup.new.self.items c.dedup.ensures.filtered))
    (Gains-dedup c.args.stops.now ids [] c.in_ok-places.places.items sorted c.in_ok-places.ensures c.sort_unstable.ensures.permutation)

pub returns-clause-rising : goal.returns-clause-rising
returns-clause-rising c =
    let sorted = c.sort_unstable.new.self.items in
    subst IsStrictlyIncreasing (sym (dedup_is eqb sorted c.dedup.new.self.items c.dedup.ensures.filtered))
    (IsStrictlyIncreasing-dedup sorted c.sort_unstable.ensures.sorted)
