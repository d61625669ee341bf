use Rattle.std.proofs.Common.{◌≡◌, ◌++◌, take}
use Rattle.cli_replay.specs.ReplayLaws.Replayed.{clients_text_of}
use Rattle.cli_replay.proofs.text.text_of.Given as goal

abbrev pub invariant-ends : goal.invariant-ends
invariant-ends l = l.text.items ≡ l.fn.lines.items ++ clients_text_of 1 (take l.index l.ends)
