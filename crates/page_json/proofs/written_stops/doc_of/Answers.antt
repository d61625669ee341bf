-- The document names its stops.
use Rattle.std.proofs.lemmas.Grind.{merely}
use Rattle.page_json.proofs.written_stops.doc_of.Goals as goal

pub invariant_of-result : goal.invariant_of-result
invariant_of-result c =
    let yes = c.if-names_its_stops.true in
    let named = c.names_its_stops.ensures in
    record { closed = merely (record { parents = named.parents yes; changes_from = named.from yes; changes_to = named.to yes }) }
