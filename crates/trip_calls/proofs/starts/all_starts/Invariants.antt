use Rattle.std.proofs.Common.{take}
use Rattle.trip_calls.specs.Starts.{AreAllGiven}
use Rattle.trip_calls.proofs.starts.all_starts.Given as goal

abbrev pub invariant-spans : goal.invariant-spans
invariant-spans l = AreAllGiven (take l.span-index l.spans) l.starts.items
