use Rattle.std.proofs.Common.{◌≡◌, ◌∙◌, Bool, ap, sym, true}
use Rattle.std.specs.Prelude.{◌&&◌, is_some}
use Rattle.gtfs_tables.specs.Fields.Places.{is_before, stands_twice}
use Rattle.gtfs_tables.specs.Trips.StopTimeRows.{same_key}
use Rattle.gtfs_tables.proofs.trips.stop_time_rows.is_second.Goals as goal

pub returns-then-is_some : goal.returns-then-is_some
returns-then-is_some c = λ keys have.
    let found = ap (λ o. is_before o c.args.place) (c.place_of.ensures ∙ have.at (c.args.trip, c.args.seq)) in
    let there : true ≡ is_some c.args.seq = sym c.if-is_some.true ∙ c.is_some.ensures in
    c.is_before.ensures ∙ found ∙ ap (λ (b : Bool). b && stands_twice same_key keys c.args.place (c.args.trip.now, c.args.seq)) there
