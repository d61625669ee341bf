use Rattle.std.proofs.Common.{◌≡◌, ◌++◌, [], ◌∷◌, ap₂, arith, rules}
use Rattle.gtfs_tables.specs.Fields.Columns.{text_in}
use Rattle.gtfs_tables.specs.Fields.PairPlaces.{lent_pair}
use Rattle.gtfs_tables.proofs.FieldsLemmas.Listed.{listed_more}
use Rattle.gtfs_tables.proofs.fields.pair_places.pairs.Goals as goal

pub rows-preserved : goal.rows-preserved
rows-preserved c =
    let pushed : c.push.new.self.items ≡ c.rows.pairs.items ++ (c.text.result, c.text-in-rows.result) ∷ [] = search rules in
    rw pushed
    (listed_more lent_pair (λ row. (text_in row c.args.first, text_in row c.args.second)) c.args.rows.now.rows c.rows.pairs.items c.rows.place (c.text.result, c.text-in-rows.result) [] (omega arith)
    c.rows.invariant (ap₂ (λ x y. (x, y)) c.text.ensures.value c.text-in-rows.ensures.value))
