use Rattle.std.specs.Prelude.{◌-◌, length}
use Rattle.cli_drill.proofs.DrawsLemmas.{HaveDrawn}
use Rattle.cli_drill.proofs.draws.draw_all.Given as goal

abbrev pub invariant-draws : goal.invariant-draws
invariant-draws l = HaveDrawn l.fn.seed l.state l.bits.items

abbrev pub decreases-draws : goal.decreases-draws
decreases-draws l = 440 - length l.bits.items
