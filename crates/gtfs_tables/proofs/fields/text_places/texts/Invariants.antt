use Rattle.std.proofs.Common.{Bor, ◌≡◌, ℕ, List, map, take}
use Rattle.gtfs_tables.specs.Fields.Columns.{text_in}
use Rattle.gtfs_tables.proofs.fields.text_places.texts.Given as goal

abbrev pub invariant-rows : goal.invariant-rows
invariant-rows l = map (λ (text : Bor (List ℕ)). text.now) l.texts.items ≡ map (λ row. text_in row l.fn.column) (take l.place l.rows.rows)
