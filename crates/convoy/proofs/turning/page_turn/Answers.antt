use Rattle.std.proofs.Common.{sym, ap, ◌∙◌, subst}
use Rattle.std.specs.List.{All}
use Rattle.lc_world.proofs.GoneOnLemmas.{no_gets}
use Rattle.page_client.specs.Kept.{Kept, has_name}
use Rattle.page_client.proofs.KeptLemmas.{All-with_used, found, named}
use Rattle.page_client.specs.declared.want.Want.TheVariants as wants
use Rattle.convoy.specs.Steps.{MayBeTaken}
use Rattle.convoy.proofs.turning.page_turn.Goals as goal

pub held_turn-requires-clause-wants : goal.held_turn-requires-clause-wants
held_turn-requires-clause-wants g c =
    c.requires.wants ∙ ap wants.Page (sym (named c.args.cache.now.pages c.args.name c.in-Some.page.now (sym c.in-Some.ensures.page)))

pub held_turn-requires-clause-sound : goal.held_turn-requires-clause-sound
held_turn-requires-clause-sound g c =
    found MayBeTaken (has_name c.args.name) c.args.cache.now.pages c.in-Some.page.now c.requires.sound (sym c.in-Some.ensures.page)

pub returns-in-Some-clause-sound : goal.returns-in-Some-clause-sound
returns-in-Some-clause-sound g c =
    subst (λ (kept : Kept). All MayBeTaken kept.pages) (sym c.get.follows.holds-at-none) (All-with_used MayBeTaken c.args.cache.now.pages c.args.name c.requires.sound)

pub returns-in-Some-clause-left : goal.returns-in-Some-clause-left
returns-in-Some-clause-left g c = no_gets _
