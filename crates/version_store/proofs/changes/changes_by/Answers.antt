use Rattle.std.proofs.Common.{map}
use Rattle.std.proofs.lemmas.Result.{IfOk-weaker}
use Rattle.version_store.specs.Kept.{news_said}
use Rattle.version_store.proofs.ChangesLemmas.{last_near}
use Rattle.version_store.proofs.changes.changes_by.Goals as goal

pub returns : goal.returns
returns c =
    IfOk-weaker c.changes_at.result _ _
    (λ changes are before after near_old near_new.
    are before after
    (last_near c.args.keys.now (map news_said c.args.old.now) before c.in_ok-last_old.last_old c.in_ok-last_old.ensures near_old)
    (last_near c.args.keys.now (map news_said c.args.new.now) after c.in_ok-last_new.last_new c.in_ok-last_new.ensures near_new))
    c.changes_at.ensures
