use Rattle.std.proofs.Common.{◌≡◌, length}
use Rattle.http_text.specs.OpenTarget.{ends_as_method}
use Rattle.http_text.proofs.open_target.ends_as_method.Given as goal

abbrev pub invariant-loop-bytes : goal.invariant-loop-bytes
invariant-loop-bytes l = ends_as_method l.bytes ≡ ends_as_method l.fn.bytes

abbrev pub decreases-loop-bytes : goal.decreases-loop-bytes
decreases-loop-bytes l = length l.bytes
