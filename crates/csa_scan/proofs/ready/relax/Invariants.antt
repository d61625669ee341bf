use Rattle.std.proofs.Common.{take}
use Rattle.csa_scan.specs.Relaxed.{IsRelaxed}
use Rattle.csa_scan.proofs.ready.relax.Given as goal

abbrev pub invariant-loop-change : goal.invariant-loop-change
invariant-loop-change l = IsRelaxed l.doc.stops (take l.change-index l.change-items) l.after l.arr l.initial.ready l.ready
