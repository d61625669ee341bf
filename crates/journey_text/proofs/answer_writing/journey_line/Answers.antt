-- The words come one after the other.
use Rattle.std.proofs.Common.{[]}
use Rattle.journey_text.proofs.TextLemmas.{appended}
use Rattle.journey_text.proofs.answer_writing.journey_line.Goals as goal

pub returns : goal.returns
returns c =
    let rides = rw c.as_slice.ensures at c.in_ok-push_count.ensures in
    let moment = rw c.known_arrival.ensures at c.in_ok-push_moment.ensures in
    let count = appended [] _ _ _ _ c.in_ok-text.ensures.items rides in
    let arrives = appended [] _ _ _ _ count c.in_ok-extend_from_slice.ensures.items in
    let arrival = appended [] _ _ _ _ arrives moment in
    appended [] _ _ _ _ arrival c.in_ok-extend_from_slice-2.ensures.items
