use Rattle.version_store.proofs.TripsLemmas.{text_put}
use Rattle.version_store.proofs.trips.put_trip.Goals as goal

pub returns : goal.returns
returns c = text_put c.bytes.result c.args.key.now.trip c.args.trips.now c.insert.new.self c.bytes.ensures.value (λ other. c.in_ok-insert.ensures.updates.0 other)
