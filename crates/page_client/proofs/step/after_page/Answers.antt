use Rattle.std.proofs.lemmas.Result.{IfOk-weaker}
use Rattle.page_client.proofs.step.after_page.Goals as goal

pub returns-in-None-clause-wrong : goal.returns-in-None-clause-wrong
returns-in-None-clause-wrong c =
    let gate = c.in_ok-outcome.ensures in
    let none = c.in-None.is in
    IfOk-weaker c.after_right_page.result _ _ (λ sequel is outcome e. absurd (cc)) c.after_right_page.ensures

pub returns-in-None-clause-right : goal.returns-in-None-clause-right
returns-in-None-clause-right c = IfOk-weaker c.after_right_page.result _ _ (λ sequel is none. is) c.after_right_page.ensures
