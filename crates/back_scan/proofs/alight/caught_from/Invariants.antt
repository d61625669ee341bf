use Rattle.std.proofs.Common.{take}
use Rattle.back_scan.proofs.CatchingLemmas.{CatchesNone}
use Rattle.back_scan.proofs.alight.caught_from.Given as goal

abbrev pub invariant-loop-change : goal.invariant-loop-change
invariant-loop-change l = CatchesNone l.doc.stops l.departures (take l.change-index l.change-items) l.arr
