use Rattle.version_store.proofs.ExchangeLemmas.{all_put, none_left, none_put, one_put}
use Rattle.version_store.proofs.exchange.put_patch.Goals as goal

pub loop-label-init : goal.loop-label-init
loop-label-init c = λ labels. none_put c.args.patch c.args.filed.now labels

pub loop-label-preserved : goal.loop-label-preserved
loop-label-preserved c = λ labels.
    one_put c.insert.result c.args.patch c.args.filed.now c.loop-label.patch c.pop_first.new.self c.loop-label.filed c.insert.new.self c.in-Some.label c.in-Some.spots c.in-Some.ensures.value (λ q. c.in-Some.ensures.updates.0 q)
    c.insert.ensures.updates c.insert.ensures.absent (c.loop-label.invariant labels)

pub loop-label-preserved-in-Some : goal.loop-label-preserved-in-Some
loop-label-preserved-in-Some c = λ labels.
    one_put c.insert.result c.args.patch c.args.filed.now c.loop-label.patch c.pop_first.new.self c.loop-label.filed c.insert.new.self c.in-Some.label c.in-Some.spots c.in-Some.ensures.value (λ q. c.in-Some.ensures.updates.0 q)
    c.insert.ensures.updates c.insert.ensures.absent (c.loop-label.invariant labels)

pub loop-label-preserved-in-Some-2 : goal.loop-label-preserved-in-Some-2
loop-label-preserved-in-Some-2 c = λ labels.
    one_put c.insert.result c.args.patch c.args.filed.now c.loop-label.patch c.pop_first.new.self c.loop-label.filed c.insert.new.self c.in-Some.label c.in-Some.spots c.in-Some.ensures.value (λ q. c.in-Some.ensures.updates.0 q)
    c.insert.ensures.updates c.insert.ensures.absent (c.loop-label.invariant labels)

pub returns : goal.returns
returns c = λ labels.
    all_put c.args.patch c.args.filed.now c.loop-label.patch c.loop-label.filed (none_left c.loop-label.patch.entries c.pop_first.result c.pop_first.ensures.variant c.in_default.is) (c.loop-label.invariant labels)
