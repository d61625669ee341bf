use Rattle.std.proofs.Common.{Some, ap}
use Rattle.journey_text.proofs.OneAnswerLemmas.{same_journey}
use Rattle.journey_text.proofs.answer_reading.arriving.Goals as goal

pub returns-in-Some-clause-exact : goal.returns-in-Some-clause-exact
returns-in-Some-clause-exact c = λ journey small before rides after. ap Some (same_journey _ journey before rides after)
