use Rattle.std.proofs.Common.{◌≡◌, ◌++◌, [], ◌∷◌, arith, rules}
use Rattle.gtfs_tables.proofs.FieldsLemmas.Listed.{pushed_all, pushed_more}
use Rattle.gtfs_tables.specs.Trips.Stops.{stop_of}
use Rattle.gtfs_tables.proofs.trips.stops.listed_stops.Goals as goal

pub rows-preserved : goal.rows-preserved
rows-preserved c =
    let pushed : c.push.new.self.items ≡ c.rows.stops.items ++ c.in_ok-stop_at.field-0 ∷ [] = search rules in
    rw pushed (pushed_more (stop_of c.args.rows.now) c.args.rows.now.rows c.rows.stops.items c.rows.place c.in_ok-stop_at.field-0 [] (omega arith) c.rows.invariant c.in_ok-stop_at.ensures)

pub returns : goal.returns
returns c = pushed_all (stop_of c.args.rows.now) c.args.rows.now.rows c.rows.stops.items c.rows.place (omega arith) c.rows.invariant
