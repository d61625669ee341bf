use Rattle.std.proofs.Common.{◌≡◌, ℕ, List, Bool, filter, take}
use Rattle.version_store.specs.Filed.{AreOut, stays_at}
use Rattle.version_store.proofs.filed.staying.Given as goal

abbrev pub invariant-spots : goal.invariant-spots
invariant-spots l = (out : List ℕ → Bool) → AreOut l.ids out → l.kept ≡ filter (stays_at l.admitted out) (take l.spot-index l.spots)
