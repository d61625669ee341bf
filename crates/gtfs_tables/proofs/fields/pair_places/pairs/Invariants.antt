use Rattle.std.proofs.Common.{◌≡◌, map, take}
use Rattle.gtfs_tables.specs.Fields.Columns.{text_in}
use Rattle.gtfs_tables.specs.Fields.PairPlaces.{lent_pair}
use Rattle.gtfs_tables.proofs.fields.pair_places.pairs.Given as goal

abbrev pub invariant-rows : goal.invariant-rows
invariant-rows l = map lent_pair l.pairs.items ≡ map (λ row. (text_in row l.fn.first, text_in row l.fn.second)) (take l.place l.rows.rows)
