-- The words come one after the other.
use Rattle.journey_text.proofs.TextLemmas.{appended}
use Rattle.journey_text.proofs.answer_writing.push_places.Goals as goal

pub returns : goal.returns
returns c =
    let start = c.args.text.now.items in
    let key = appended start _ _ _ _ c.in_ok-extend_from_slice.ensures.items c.in_ok-push_key.ensures in
    let first = appended start _ _ _ _ key c.in_ok-push_number.ensures in
    appended start _ _ _ _ first c.in_ok-push_number-2.ensures
