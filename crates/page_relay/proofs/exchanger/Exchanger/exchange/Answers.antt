-- A relay is as honest as before where it answers itself, or does not, and as the link below where it hands on.
use Rattle.std.proofs.Common.{IsTrue}
use Rattle.page_relay.proofs.HonestLemmas.{by_memory, not_asked}
use Rattle.page_relay.proofs.exchanger.Exchanger.exchange.Goals as goal

pub returns-in_err-answer-clause-honest : goal.returns-in_err-answer-clause-honest
returns-in_err-answer-clause-honest g c =
    let same = c.in_err-answer.ensures.unchanged in
    rw (← c.self.view_is, same) (λ base side get is. not_asked _ _ _ base side _ _ c.from_residual.result c.from_residual.ensures.0 is)

pub returns-then-branch-clause-honest : goal.returns-then-branch-clause-honest
returns-then-branch-clause-honest g c =
    let hit : IsTrue c.in_ok-answer.field-0 = c.if-branch.true in
    let found = c.in_ok-answer.ensures.answered hit in
    let used = c.in_ok-answer.ensures.used hit in
    rw (← c.self.view_is, used) (λ base side get is. by_memory base _ _ _ _ side c.args.sent _ tt found is)

pub returns-clause-honest : goal.returns-clause-honest
returns-clause-honest g c =
    let not_hit : IsTrue c.in_ok-answer.field-0 → ⊥ = λ hit. cc in
    let same = c.in_ok-answer.ensures.not_used not_hit in
    rw (← c.self.view_is) (rw same at c.hand_on.ensures.honest)
