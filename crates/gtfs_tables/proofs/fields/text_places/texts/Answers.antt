use Rattle.std.proofs.Common.{Bor, ◌≡◌, ◌++◌, [], ◌∷◌, ℕ, List, arith, rules}
use Rattle.gtfs_tables.specs.Fields.Columns.{text_in}
use Rattle.gtfs_tables.proofs.FieldsLemmas.Listed.{listed_more}
use Rattle.gtfs_tables.proofs.fields.text_places.texts.Goals as goal

pub rows-preserved : goal.rows-preserved
rows-preserved c =
    let pushed : c.push.new.self.items ≡ c.rows.texts.items ++ c.text.result ∷ [] = search rules in
    rw pushed (listed_more (λ (text : Bor (List ℕ)). text.now) (λ row. text_in row c.args.column) c.args.rows.now.rows c.rows.texts.items c.rows.place c.text.result [] (omega arith) c.rows.invariant c.text.ensures.value)
