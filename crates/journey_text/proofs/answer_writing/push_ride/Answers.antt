-- The words come one after the other.
use Rattle.journey_text.proofs.TextLemmas.{appended}
use Rattle.journey_text.proofs.answer_writing.push_ride.Goals as goal

pub returns : goal.returns
returns c =
    let start = c.args.text.now.items in
    let board = appended start _ _ _ _ c.in_ok-push_places.ensures c.in_ok-push_id.ensures in
    let dep = appended start _ _ _ _ board c.in_ok-push_moment.ensures in
    let alight = appended start _ _ _ _ dep c.in_ok-push_id-2.ensures in
    let arr = appended start _ _ _ _ alight c.in_ok-push_moment-2.ensures in
    appended start _ _ _ _ arr c.in_ok-extend_from_slice.ensures.items
