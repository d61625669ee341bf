-- There is a line for each ride that was passed.
use Rattle.std.proofs.Common.{◌≡◌, ◌++◌, take}
use Rattle.std.specs.List.{flat_map}
use Rattle.journey_text.specs.AnswerText.{ride_line_of}
use Rattle.journey_text.proofs.answer_writing.push_rides.Given as goal

abbrev pub invariant-loop-ride : goal.invariant-loop-ride
invariant-loop-ride l = l.text.items ≡ l.initial.text.items ++ flat_map ride_line_of (take l.ride-index l.rides)
