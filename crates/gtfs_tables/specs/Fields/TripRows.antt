-- Lists of trips.
use Rattle.std.specs.Prelude.{◌≡◌, ◌≢◌, ℕ, List}
use Rattle.std.specs.List.{AllPairs, Any}
use Rattle.gtfs_tables.specs.declared.fields.trip_rows.TripRow.{TripRow}

-- no two trips have one id
abbrev pub HaveOneRowATrip : List TripRow → Type 0
HaveOneRowATrip trips = AllPairs (λ (x y : TripRow). x.trip ≢ y.trip) trips

-- the list has a trip of this id
abbrev pub HasTrip : List TripRow → List ℕ → Type 0
HasTrip trips id = Any (λ (t : TripRow). t.trip ≡ id) trips
