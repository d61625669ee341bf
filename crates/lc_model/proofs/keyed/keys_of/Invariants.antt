-- The keys so far are those of the items so far.
use Rattle.std.proofs.Common.{Bor, ◌≡◌, ℕ, List, map, take}
use Rattle.lc_model.proofs.keyed.keys_of.Given as goal

abbrev pub invariant-items : goal.invariant-items
invariant-items g l = map (λ (x : Bor (List ℕ)). x.now) l.keys.items ≡ map g.T.Keyed.key (take l.item-index l.items)
