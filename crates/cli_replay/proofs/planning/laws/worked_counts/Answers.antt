use Rattle.std.proofs.Common.{refl}
use Rattle.std.specs.Fmt.{digits}
use Rattle.cli_replay.proofs.planning.laws.worked_counts.Goals as goal

pub returns : goal.returns
unfolding digits
returns c = refl
