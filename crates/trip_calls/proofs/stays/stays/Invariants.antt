use Rattle.trip_calls.specs.Stays.{AreStaysTo}
use Rattle.trip_calls.proofs.stays.stays.Given as goal

abbrev pub invariant-rows : goal.invariant-rows
invariant-rows l = AreStaysTo l.rows l.place l.stays.items
