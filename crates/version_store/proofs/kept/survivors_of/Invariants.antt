use Rattle.std.proofs.Common.{◌≡◌, ℕ, List, drop, map, reverse}
use Rattle.std.specs.Borrow.{Bor}
use Rattle.std.specs.BTreeSet.{contains}
use Rattle.std.specs.Cmp.Lexicographic.{slice_cmp}
use Rattle.std.specs.List.{Contains}
use Rattle.std.specs.Ordering.{nat_cmp}
use Rattle.version_store.specs.Kept.{entity_said, is_replaced, survivors}
use Rattle.version_store.specs.declared.kept.Marked.{Marked}
use Rattle.version_store.proofs.kept.survivors_of.Given as goal

abbrev pub invariant-marks : goal.invariant-marks
invariant-marks l = record {
  later : (id : Bor (List ℕ)) → contains (λ x y. slice_cmp nat_cmp x.now y.now) l.later id ≡ is_replaced id.now (drop l.place l.marks);
  kept : reverse (map entity_said l.kept.items) ≡ survivors (drop l.place l.marks);
  of : (m : Marked) → Contains l.kept.items m → Contains l.marks m;
}
