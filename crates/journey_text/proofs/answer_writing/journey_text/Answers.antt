-- The lines come one after the other.
use Rattle.std.proofs.Common.{[]}
use Rattle.journey_text.proofs.TextLemmas.{appended}
use Rattle.journey_text.proofs.answer_writing.journey_text.Goals as goal

pub returns : goal.returns
returns c =
    let lines = rw c.as_slice.ensures at c.in_ok-push_rides.ensures in
    let before = appended [] _ _ _ _ c.in_ok-text.ensures c.in_ok-push_walk.ensures in
    let rides = appended [] _ _ _ _ before lines in
    appended [] _ _ _ _ rides c.in_ok-push_walk-2.ensures
