use Rattle.std.proofs.Common.{◌≡◌, ◌∙◌, ℕ, List, Some, ap, sym}
use Rattle.journey_text.proofs.OneAnswerLemmas.{same_ride}
use Rattle.journey_text.proofs.answer_reading.ride_of.Goals as goal

same_value : {X : Type 0} (x y : X) → Some x ≡ Some y → x ≡ y
same_value x y e = cc

pub returns-in-Some-3 : goal.returns-in-Some-3
returns-in-Some-3 c = λ ride sound are.
    let times = c.in-Some.ensures ride sound are in
    let key = same_value c.in-Some-2.key ride.key (sym c.in-Some-2.is ∙ c.in_ok-key.ensures ride.key sound.trip are.trip are.date are.start) in
    let ends =
    same_value {X = List ℕ × List ℕ} (c.in-Some-3.board, c.in-Some-3.alight) (ride.board, ride.alight)
    (sym c.in-Some-3.is ∙ c.in_ok-board.ensures ride.board ride.alight sound.board sound.alight are.board are.alight) in
    let board = ap (λ (both : List ℕ × List ℕ). both.0) ends in
    let alight = ap (λ (both : List ℕ × List ℕ). both.1) ends in
    ap Some (same_ride _ ride key times.first_seq times.last_seq board times.dep alight times.arr)
