use Rattle.page_client.proofs.step.next_of.Goals as goal

pub returns-else-is_over-clause-next : goal.returns-else-is_over-clause-next
returns-else-is_over-clause-next c = (
  c.in_ok-next.was,
  λ query doc taken stands over. let is = c.is_over.ensures.only query doc taken stands over in let not = c.if-is_over.false in absurd (cc),
)
