use Rattle.back_client.proofs.step.is_over.Goals as goal

pub returns-clause-over : goal.returns-clause-over
returns-clause-over c = λ over query doc taken stands.
    let is_latest = c.latest-latest.ensures query doc taken stands in
    record { latest = c.latest-latest.result; is_latest = is_latest; over = (c.done.ensures query doc taken c.latest-latest.result stands is_latest).0 over }
