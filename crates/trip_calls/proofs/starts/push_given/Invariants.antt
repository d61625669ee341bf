use Rattle.std.proofs.Common.{◌≡◌, ◌++◌, Some, map, take}
use Rattle.trip_calls.specs.declared.start.Start.{Start}
use Rattle.trip_calls.proofs.starts.push_given.Given as goal

abbrev pub invariant-given : goal.invariant-given
invariant-given l = map (λ (s : Start). s.seconds) l.starts.items ≡ map (λ (s : Start). s.seconds) l.initial.starts.items ++ map Some (take l.seconds-index l.given)
