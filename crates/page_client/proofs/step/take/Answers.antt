use Rattle.std.proofs.Common.{◌++◌}
use Rattle.page_client.proofs.step.take.Goals as goal

pub returns-in-Some : goal.returns-in-Some
returns-in-Some c = λ query doc taken in_order stands.
    let now = c.in_ok-take_all.ensures.ok query doc taken in_order stands in
    let all = taken ++ c.args.page.now.list in
    let next = c.in-Some.ensures.next in
    (now, (next.0, λ over. next.1 query doc all now over), (c.best-best.result, c.best-best.ensures query doc all now))

pub returns-in_ok-journey-in-None : goal.returns-in_ok-journey-in-None
returns-in_ok-journey-in-None c = λ query doc taken in_order stands.
    let now = c.in_ok-take_all.ensures.ok query doc taken in_order stands in
    let all = taken ++ c.args.page.now.list in (
      now,
      (c.in-None.ensures.last query doc all now, c.in_ok-journey-in-None.ensures query doc all now),
      (c.best-best.result, c.best-best.ensures query doc all now),
    )
