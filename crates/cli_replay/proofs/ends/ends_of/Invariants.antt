use Rattle.cli_replay.specs.ReplayLaws.Played.{HaveEndedSo}
use Rattle.cli_replay.proofs.ends.ends_of.Given as goal

abbrev pub invariant-members : goal.invariant-members
invariant-members l = HaveEndedSo l.yielded l.ends.items
