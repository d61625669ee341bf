-- What is copied so far is the front of the items.
use Rattle.std.proofs.Common.{◌≡◌, take}
use Rattle.lc_model.proofs.memory.copy_each.Given as goal

abbrev pub invariant-loop-item : goal.invariant-loop-item
invariant-loop-item g l = l.list.items ≡ take l.item-index l.items
