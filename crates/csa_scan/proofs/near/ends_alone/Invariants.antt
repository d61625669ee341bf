use Rattle.std.proofs.Common.{◌≡◌, length}
use Rattle.csa_scan.proofs.NearStepsLemmas.{AreAloneSoFar}
use Rattle.csa_scan.proofs.near.ends_alone.Given as goal

abbrev pub invariant-loop-place : goal.invariant-loop-place
invariant-loop-place l = record {
  so_far : length l.near.items ≡ l.place;
  alone : AreAloneSoFar l.stops l.named l.near.items;
}
