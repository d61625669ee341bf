use Rattle.std.proofs.Common.{◌≡◌, length}
use Rattle.http_text.specs.OpenTarget.{behind_blanks}
use Rattle.http_text.proofs.open_target.behind_blanks.Given as goal

abbrev pub invariant-loop-bytes : goal.invariant-loop-bytes
invariant-loop-bytes l = behind_blanks l.bytes ≡ behind_blanks l.fn.bytes

abbrev pub decreases-loop-bytes : goal.decreases-loop-bytes
decreases-loop-bytes l = length l.bytes
