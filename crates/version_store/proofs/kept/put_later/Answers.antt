use Rattle.std.proofs.Common.{◌∙◌}
use Rattle.version_store.proofs.KeptLemmas.{put_among}
use Rattle.version_store.proofs.kept.put_later.Goals as goal

pub returns-in_ok-insert : goal.returns-in_ok-insert
returns-in_ok-insert c = λ id. c.in_ok-insert.ensures.updates.0 id ∙ put_among c.args.marked.replaces c.id.result.now id.now c.args.marked.entity.now.id _ c.if-marked.true c.id.ensures
