-- The first rides were taken, and the words after them say the rest.
use Rattle.std.proofs.Common.{◌-◌, ◌≤◌, length}
use Rattle.journey_text.proofs.ReadingLemmas.{GoesOn}
use Rattle.journey_text.proofs.answer_reading.written_rides.Given as goal

abbrev pub invariant-rides : goal.invariant-rides
invariant-rides l = record { within : l.place ≤ length l.words; goes : GoesOn l.words l.place l.rides.items }

abbrev pub decreases-rides : goal.decreases-rides
decreases-rides l = length l.words - l.place
