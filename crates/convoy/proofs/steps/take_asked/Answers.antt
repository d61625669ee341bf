use Rattle.std.proofs.Common.{sym, subst}
use Rattle.std.specs.List.{All}
use Rattle.page_client.specs.Kept.{Kept}
use Rattle.page_client.proofs.KeptLemmas.{All-with_put}
use Rattle.convoy.specs.Steps.{MayBeTaken}
use Rattle.convoy.proofs.steps.take_asked.Goals as goal

pub returns-in-Ok-clause-sound : goal.returns-in-Ok-clause-sound
returns-in-Ok-clause-sound c =
    subst (λ (kept : Kept). All MayBeTaken kept.pages) (sym c.in-Ok.ensures.put) (All-with_put MayBeTaken c.args.cache.now c.args.page (record { valid = c.requires.valid; on = c.requires.advances }) c.requires.sound)
