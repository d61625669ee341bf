use Rattle.std.proofs.Common.{◌≡◌, Some, None, refl, sym, ◌∙◌}
use Rattle.lc_time.specs.Date.{date_said, date_text_of}
use Rattle.lc_time.proofs.SaidLemmas.{dates_said}
use Rattle.trip_updates.proofs.SaidLemmas.{said_is, said_there, some}
use Rattle.trip_updates.proofs.trip.date_in.Goals as goal

pub returns-in_err-date : goal.returns-in_err-date
returns-in_err-date c =
    let text = c.args.text.now in
    let read = said_is (λ date. text ≡ date_text_of date.year date.month date.day) (date_said text) c.read_date.result (dates_said text) c.read_date.ensures.said c.read_date.ensures.exact in
    rw c.from_residual.ensures (said_there date_said (Some text) text None refl (some text (sym c.is_empty.ensures ∙ c.if-is_empty.false)) (sym c.in_err-date.was ∙ read))

pub returns : goal.returns
returns c =
    let text = c.args.text.now in
    let read = said_is (λ date. text ≡ date_text_of date.year date.month date.day) (date_said text) c.read_date.result (dates_said text) c.read_date.ensures.said c.read_date.ensures.exact in
    said_there date_said (Some text) text (Some c.in_ok-date.date) refl (some text (sym c.is_empty.ensures ∙ c.if-is_empty.false)) (sym c.in_ok-date.was ∙ read)
