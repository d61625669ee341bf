use Rattle.std.proofs.Common.{◌∙◌, sym}
use Rattle.version_store.proofs.FiledLemmas.{none_added, one_added}
use Rattle.version_store.proofs.filed.push_at.Goals as goal

pub returns-in_default : goal.returns-in_default
returns-in_default c =
    none_added c.in_ok-label.label c.args.text.now c.args.spot c.args.patch.now c.remove.new.self c.in_ok-label.ensures (sym c.remove.ensures.value ∙ c.in_default.is) (λ q. c.remove.ensures.updates.0 q)

pub returns : goal.returns
returns c =
    one_added c.in_ok-label.label c.args.text.now c.args.spot c.in-Some.spots c.push.new.self c.args.patch.now c.remove.new.self c.insert.new.self c.in_ok-label.ensures c.in_ok-push.ensures (sym c.remove.ensures.value ∙ c.in-Some.is)
    (λ q. c.remove.ensures.updates.0 q) (λ q. c.in_ok-insert.ensures.updates.0 q)
