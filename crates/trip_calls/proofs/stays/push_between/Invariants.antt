use Rattle.std.proofs.Common.{◌≡◌, ◌+◌, ◌-◌, ◌++◌, map}
use Rattle.std.specs.List.{range_with_len}
use Rattle.trip_calls.proofs.FillLemmas.{blank_at}
use Rattle.trip_calls.proofs.stays.push_between.Given as goal

abbrev pub invariant-places : goal.invariant-places
invariant-places l =
    l.stays.items ≡ l.initial.stays.items ++ map (blank_at l.departs l.before l.after l.arrives) (range_with_len (l.before + 1) (l.place - (l.before + 1)))
