use Rattle.std.proofs.Common.{◌≡◌, length}
use Rattle.http_text.specs.Target.{ends_authority, from_first}
use Rattle.http_text.proofs.target.from_authority_end.Given as goal

abbrev pub invariant-loop-bytes : goal.invariant-loop-bytes
invariant-loop-bytes l = from_first ends_authority l.bytes ≡ from_first ends_authority l.fn.bytes

abbrev pub decreases-loop-bytes : goal.decreases-loop-bytes
decreases-loop-bytes l = length l.bytes
