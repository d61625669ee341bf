use Rattle.std.proofs.Common.{ap, ◌∙◌, ◌+◌, ◌++◌, ◌∷◌, []}
use Rattle.std.specs.Prelude.{if◌then◌else◌}
use Rattle.trip_updates.proofs.message.push_stated.Goals as goal

pub returns-clause-said : goal.returns-clause-said
returns-clause-said c = c.in_ok-push.ensures.items ∙ ap (λ one. c.args.said.now.items ++ one ∷ []) c.stated.ensures

pub returns-clause-passed : goal.returns-clause-passed
returns-clause-passed c = c.in_ok-passed.ensures.passed ∙ ap (λ counted. c.args.passed + (if counted then 1 else 0)) c.is_counted.ensures
