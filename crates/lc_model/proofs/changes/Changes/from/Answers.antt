-- Changes in order are sorted by the stops that they leave.
use Rattle.std.specs.Ordering.{on}
use Rattle.lc_model.specs.Text.{id_cmp}
use Rattle.lc_model.specs.declared.change.Change.{Change}
use Rattle.lc_model.proofs.RangesLemmas.{sorted_by_key}
use Rattle.lc_model.proofs.changes.Changes.from.Goals as goal

pub items_of-requires : goal.items_of-requires
items_of-requires c = sorted_by_key (λ (x : Change). x.from) (on (λ (x : Change). x.to) id_cmp) c.as_slice.result.now c.as_slice.ensures.in_order
