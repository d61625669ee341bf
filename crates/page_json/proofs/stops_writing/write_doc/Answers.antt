-- The members follow each other. The lists of a document are in order, and it names its stops.
use Rattle.std.proofs.Common.{subst}
use Rattle.lc_model.specs.Change.{InChangeOrder}
use Rattle.lc_model.specs.Stop.{InStopOrder}
use Rattle.page_json.proofs.StopsLemmas.{names_its_stops}
use Rattle.page_json.proofs.ObjectMembersLemmas.TokensLemmas.{one, ◌>>◌}
use Rattle.page_json.proofs.stops_writing.write_doc.Goals as goal

pub returns-clause-tokens : goal.returns-clause-tokens
returns-clause-tokens c =
    let whole = one c.in_ok-begin_object.ensures >> c.in_ok-write_text.ensures >> c.in_ok-write_lists.ensures.tokens in
    rw (← c.as_slice.ensures.value, ← c.as_slice-2.ensures.value) whole

pub returns-clause-valid : goal.returns-clause-valid
returns-clause-valid c = record {
  stops = subst InStopOrder c.as_slice-2.ensures.value c.as_slice-2.ensures.in_order;
  changes = subst InChangeOrder c.as_slice.ensures.value c.as_slice.ensures.in_order;
  closed = names_its_stops c.args.doc.now;
}
