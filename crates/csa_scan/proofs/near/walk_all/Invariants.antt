use Rattle.std.proofs.Common.{take}
use Rattle.csa_scan.proofs.NearnessLemmas.{AreNearBy}
use Rattle.csa_scan.proofs.near.walk_all.Given as goal

abbrev pub invariant-loop-change : goal.invariant-loop-change
invariant-loop-change l = AreNearBy l.side l.doc.stops l.named (take l.change-index l.changes) l.near
