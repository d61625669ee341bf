use Rattle.std.proofs.Common.{◌≡◌, ◌∙◌, ◌++◌, List, ℕ, take, ap, sym, arith}
use Rattle.std.specs.List.{flat_map}
use Rattle.std.proofs.lemmas.List.{take_all}
use Rattle.journey_text.specs.AnswerText.{ride_line_of}
use Rattle.journey_text.proofs.TextLemmas.{appended, one_more_line}
use Rattle.journey_text.proofs.answer_writing.push_rides.Goals as goal

pub loop-ride-preserved : goal.loop-ride-preserved
loop-ride-preserved c =
    let front : List ℕ = c.args.text.now.items in
    let lines : List ℕ = flat_map ride_line_of (take c.loop-ride.ride-index c.args.rides.now) in
    let more = appended front c.loop-ride.text.items c.push_ride.new.text.items lines (ride_line_of c.ride-item.result) c.loop-ride.invariant c.in_ok-push_ride.ensures in
    more ∙ ap (λ text. front ++ text) (sym (one_more_line ride_line_of c.args.rides.now c.loop-ride.ride-index c.ride-item.result (omega arith) c.ride-item.is))

pub returns : goal.returns
returns c =
    let all : take c.loop-ride.ride-index c.args.rides.now ≡ c.args.rides.now = take_all c.loop-ride.ride-index c.args.rides.now (omega arith) in
    c.loop-ride.invariant ∙ ap (λ rides. c.args.text.now.items ++ flat_map ride_line_of rides) all
