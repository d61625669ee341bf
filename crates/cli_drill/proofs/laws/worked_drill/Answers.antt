use Rattle.std.proofs.Common.{refl}
use Rattle.cli_drill.specs.Draws.{state_after}
use Rattle.cli_drill.proofs.laws.worked_drill.Goals as goal

pub returns-clause-late : goal.returns-clause-late
unfolding state_after
returns-clause-late c = refl

pub returns-clause-second_late : goal.returns-clause-second_late
unfolding state_after
returns-clause-second_late c = refl
