use Rattle.std.proofs.Common.{◌≡◌, rules}
use Rattle.std.proofs.lemmas.Map.Iter.{rest_all, rest_more}
use Rattle.std.specs.Map.Iter.{deref}
use Rattle.version_store.proofs.TripsLemmas.{all_trips, no_trips, trips_more}
use Rattle.version_store.proofs.trips.trips_of.Goals as goal

pub loop-key-init : goal.loop-key-init
loop-key-init c =
    let all : c.into_iter-key-iterator.result ≡ c.args.keys.now.keys = search rules in
    no_trips c.args.keys.now.keys c.into_iter-key-iterator.result c.new-trips.result all

pub loop-key-preserved : goal.loop-key-preserved
loop-key-preserved c =
    trips_more c.args.keys.now.keys c.loop-key.key-iterator c.next.new.self c.in-Some.key.now c.loop-key.trips c.put_trip.new.trips (rest_more deref _ _ _ c.in-Some.key c.in-Some.is c.next.ensures.steps) c.in_ok-put_trip.ensures
    c.loop-key.invariant

pub returns : goal.returns
returns c = all_trips c.args.keys.now.keys c.loop-key.key-iterator c.loop-key.trips (rest_all deref _ _ _ c.in-None.is c.next.ensures.steps) c.loop-key.invariant
