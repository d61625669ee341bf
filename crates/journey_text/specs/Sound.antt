-- Answers as their types have them: the ranges of numbers, and which texts are ids.
use Rattle.std.specs.Prelude.{ℕ, ◌<◌, ◌^◌}
use Rattle.std.specs.List.{All}
use Rattle.std.specs.Option.{IfSome}
use Rattle.lc_model.specs.Text.{IsIdText}
use Rattle.lc_model.specs.declared.answer.Answer.{Answer}
use Rattle.lc_model.specs.declared.answer.Answer.TheVariants as answers
use Rattle.lc_model.specs.declared.journey.Journey.{Journey}
use Rattle.lc_model.specs.declared.ride.Ride.{Ride}
use Rattle.lc_model.specs.declared.walk.Walk.{Walk}
use Rattle.journey_text.specs.AnswerText.{ArrivesAtAMoment}

-- a moment
abbrev pub IsMoment : ℕ → Type 0
IsMoment moment = moment < 253_402_128_000

-- a ride as its type has it
pub record IsSoundRide (ride : Ride) : Type 0 where
  pub trip : IsIdText ride.key.trip
  pub first_seq : ride.first_seq < 2 ^ 32
  pub last_seq : ride.last_seq < 2 ^ 32
  pub board : IsIdText ride.board
  pub dep : IsMoment ride.dep
  pub alight : IsIdText ride.alight
  pub arr : IsMoment ride.arr

-- a walk as its type has it
pub record IsSoundWalk (walk : Walk) : Type 0 where
  pub from : IsIdText walk.from
  pub to : IsIdText walk.to
  pub seconds : walk.seconds < 2 ^ 32

-- a journey as its type has it
pub record IsSoundJourney (journey : Journey) : Type 0 where
  pub before : IfSome journey.before IsSoundWalk
  pub rides : All IsSoundRide journey.rides
  pub after : IfSome journey.after IsSoundWalk

-- an answer as its type has it
abbrev pub IsSoundAnswer : Answer → Type 0
IsSoundAnswer (answers.Journey journey) = IsSoundJourney journey
IsSoundAnswer answers.NoJourney = Unit {0}

-- an answer that has a text: it is as its type has it, and its journey arrives at a moment
pub record HasText (answer : Answer) : Type 0 where
  pub sound : IsSoundAnswer answer
  pub arrives : ArrivesAtAMoment answer
