use Rattle.gtfs_tables.proofs.TripsLemmas.SoundLemmas.{found_same, found_within}
use Rattle.gtfs_tables.proofs.trips.near.place_of_key.Goals as goal

pub returns-clause-within : goal.returns-clause-within
returns-clause-within g c = found_within g.T.Keyed.key c.args.items.now c.args.key.now c.place_of_text.result (c.place_of_text.ensures _ c.requires)

pub returns-clause-same : goal.returns-clause-same
returns-clause-same g c = found_same g.T.Keyed.key c.args.items.now c.args.key.now c.place_of_text.result (c.place_of_text.ensures _ c.requires)
