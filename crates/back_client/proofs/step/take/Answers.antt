use Rattle.std.proofs.Common.{◌++◌}
use Rattle.back_client.proofs.step.take.Goals as goal

pub returns-in-Some-clause-takes : goal.returns-in-Some-clause-takes
returns-in-Some-clause-takes c = λ query doc taken in_order stands.
    let now = c.in_ok-take_back.ensures.ok query doc taken in_order stands in
    let all = c.args.page.now.list ++ taken in
    let previous = c.in-Some.ensures.previous in
    (now, record { is_previous = previous.0; not_over = previous.1 query doc all now }, (c.latest-latest.result, c.latest-latest.ensures query doc all now))

pub returns-in_ok-journey-in-None-clause-takes : goal.returns-in_ok-journey-in-None-clause-takes
returns-in_ok-journey-in-None-clause-takes c = λ query doc taken in_order stands.
    let now = c.in_ok-take_back.ensures.ok query doc taken in_order stands in
    let all = c.args.page.now.list ++ taken in (
      now,
      record {
        last = c.in-None.ensures.last query doc all now;
        journey = c.in_ok-journey-in-None.journey;
        is_latest = c.in_ok-journey-in-None.ensures query doc all now;
        is = c.answered.ensures;
      },
      (c.latest-latest.result, c.latest-latest.ensures query doc all now),
    )
