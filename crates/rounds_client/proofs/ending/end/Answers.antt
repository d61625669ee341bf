-- What the client's outcome says of what it was given holds of the outcome that is taken out of it.
use Rattle.std.proofs.Common.{Option, refl, sym, subst, ◌∙◌}
use Rattle.page_client.specs.declared.outcome.Outcome.{Outcome}
use Rattle.rounds_client.specs.Course.{HasRead}
use Rattle.rounds_client.specs.Given.{was_given}
use Rattle.rounds_client.proofs.ending.end.Goals as goal

pub answer-requires : goal.answer-requires
answer-requires c =
    let R : Option Outcome → Type 0 = λ o. HasRead c.args.query.now (was_given c.args.given.now) o in
    subst R (sym c.into_outcome.ensures ∙ c.in-Some.is) c.requires

pub returns-in_ok-answer-in-Some-clause-ends : goal.returns-in_ok-answer-in-Some-clause-ends
returns-in_ok-answer-in-Some-clause-ends c =
    record {
      outcome = c.in-Some.outcome;
      ended = sym c.into_outcome.ensures ∙ c.in-Some.is;
      version = c.version-version.ensures;
      exchanges = refl;
      answer = c.in_ok-answer-in-Some.ensures.answers;
    }
