use Rattle.std.proofs.Common.{◌≡◌, ◌++◌, [], ◌∷◌, arith, rules}
use Rattle.gtfs_tables.proofs.FieldsLemmas.Listed.{listed_all, listed_more}
use Rattle.gtfs_tables.specs.Trips.KeyPlaces.{lent_key}
use Rattle.gtfs_tables.specs.Trips.StopTimeRows.{key_of}
use Rattle.gtfs_tables.proofs.trips.stop_time_rows.keys_of_rows.Goals as goal

pub rows-preserved : goal.rows-preserved
rows-preserved c =
    let pushed : c.push.new.self.items ≡ c.rows.keys.items ++ c.key_at.result ∷ [] = search rules in
    rw pushed (listed_more lent_key (key_of c.args.rows.now) c.args.rows.now.rows c.rows.keys.items c.rows.place c.key_at.result [] (omega arith) c.rows.invariant c.key_at.ensures)

pub returns : goal.returns
returns c = listed_all lent_key (key_of c.args.rows.now) c.args.rows.now.rows c.rows.keys.items c.rows.place (omega arith) c.rows.invariant
