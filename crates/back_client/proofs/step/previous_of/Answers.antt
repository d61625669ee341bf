use Rattle.back_client.proofs.step.previous_of.Goals as goal

pub returns-else-is_over-clause-previous : goal.returns-else-is_over-clause-previous
returns-else-is_over-clause-previous c = (
  c.in_ok-previous.was,
  λ query doc taken stands over. let is = c.is_over.ensures.only query doc taken stands over in let not = c.if-is_over.false in absurd (cc),
)
