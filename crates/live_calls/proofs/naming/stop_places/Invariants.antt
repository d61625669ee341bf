use Rattle.live_calls.specs.Places.{ArePlaces}
use Rattle.live_calls.proofs.naming.stop_places.Given as goal

abbrev pub invariant-calls : goal.invariant-calls
invariant-calls l = ArePlaces l.calls l.place l.places.items
