-- The words come one after the other.
use Rattle.journey_text.proofs.TextLemmas.{appended}
use Rattle.journey_text.proofs.answer_writing.push_walk_line.Goals as goal

pub returns : goal.returns
returns c =
    let start = c.args.text.now.items in
    let from = appended start _ _ _ _ c.in_ok-extend_from_slice.ensures.items c.in_ok-push_id.ensures in
    let to = appended start _ _ _ _ from c.in_ok-push_id-2.ensures in
    let seconds = appended start _ _ _ _ to c.in_ok-push_number.ensures in
    appended start _ _ _ _ seconds c.in_ok-extend_from_slice-2.ensures.items
