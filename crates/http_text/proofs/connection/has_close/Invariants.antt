use Rattle.std.proofs.Common.{◌≡◌, length}
use Rattle.http_text.specs.Fields.{has_close}
use Rattle.http_text.proofs.connection.has_close.Given as goal

abbrev pub invariant-loop-element : goal.invariant-loop-element
invariant-loop-element l = has_close l.rest ≡ has_close l.fn.value

abbrev pub decreases-loop-element : goal.decreases-loop-element
decreases-loop-element l = length l.rest
