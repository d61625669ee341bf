use Rattle.page_json.proofs.StopsLemmas.{names_its_stops}
use Rattle.std.proofs.Common.{subst}
use Rattle.lc_model.specs.Change.{InChangeOrder}
use Rattle.lc_model.specs.Stop.{InStopOrder}
use Rattle.publisher.proofs.kept.doc_is_valid.Goals as goal

pub returns : goal.returns
returns c = record {
  stops = subst InStopOrder c.as_slice-stops.ensures.value c.as_slice-stops.ensures.in_order;
  changes = subst InChangeOrder c.as_slice-changes.ensures.value c.as_slice-changes.ensures.in_order;
  closed = names_its_stops c.args.doc.now;
}
