use Rattle.std.proofs.Common.{sym, ◌∙◌}
use Rattle.trip_updates.proofs.WholeLemmas.{whole_update}
use Rattle.trip_updates.proofs.message.whole.Goals as goal

pub returns-in-Some : goal.returns-in-Some
returns-in-Some c = λ tree shown.
    whole_update tree c.in-Some.head c.args.feed.entities.items c.update.result (sym c.in-Some.is ∙ shown.head) shown.entities c.update.ensures.ok c.update.ensures.err
