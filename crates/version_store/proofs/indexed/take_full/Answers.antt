use Rattle.std.proofs.Common.{map}
use Rattle.lc_model.specs.Versions.History.{filled, with_news}
use Rattle.version_store.proofs.indexed.take_full.Goals as goal

pub returns-clause-ok : goal.returns-clause-ok
returns-clause-ok c = λ before a force there says.
    let goes = c.in_ok-step.ensures before a force there says in
    let after = with_news (map (filled c.args.date) c.args.entities.now) in
    record { turned = c.in_ok-turn_whole.ensures.ok before after force goes; force = goes.patch }
