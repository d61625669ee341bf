-- The map has the first place of each key among the keys from here on.
use Rattle.std.proofs.Common.{◌≡◌, drop}
use Rattle.std.specs.BTreeMap.{get}
use Rattle.std.specs.List.{position_from}
use Rattle.std.specs.Ordering.{is_eq}
use Rattle.gtfs_tables.proofs.fields.places.first_places.Given as goal

abbrev pub invariant-keys : goal.invariant-keys
invariant-keys g l = (key : g.row.K.Denot) → get g.K.Ord.cmp l.places key ≡ position_from (λ other. is_eq (g.K.Ord.cmp other key)) l.place (drop l.place l.keys)
