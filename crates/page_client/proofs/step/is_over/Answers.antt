use Rattle.std.proofs.Common.{ap, sym, ◌∙◌}
use Rattle.lc_model.specs.Connection.{last_departure}
use Rattle.page_client.proofs.step.is_over.Goals as goal

pub returns-in-Some-clause-over : goal.returns-in-Some-clause-over
returns-in-Some-clause-over c = λ over query doc taken stands.
    let is_best = c.best-best.ensures query doc taken stands in
    record {
      last = c.in-Some.last;
      is_last = ap last_departure (sym c.as_slice.ensures.value) ∙ sym c.last_departure.ensures ∙ c.in-Some.is;
      best = c.best-best.result;
      is_best = is_best;
      by_last = (c.done.ensures query doc taken c.best-best.result stands is_best).0 over;
    }
