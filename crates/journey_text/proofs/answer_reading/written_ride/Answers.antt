use Rattle.std.proofs.lemmas.Result.{IfOk-weaker}
use Rattle.journey_text.proofs.answer_reading.written_ride.Goals as goal

pub returns-in-Some-clause-exact : goal.returns-in-Some-clause-exact
returns-in-Some-clause-exact c =
    IfOk-weaker c.ride_of.result _ _ (λ read is ride behind sound e. is ride sound (c.in-Some.ensures.exact ride behind e)) c.ride_of.ensures

pub returns-in-None-clause-exact : goal.returns-in-None-clause-exact
returns-in-None-clause-exact c = λ ride behind sound e. absurd (c.in-None.ensures.exact ride behind e)
