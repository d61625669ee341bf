use Rattle.version_store.proofs.IndexLemmas.BaseLemmas.{none_numbered, numbered_all, numbered_more}
use Rattle.version_store.proofs.index.base.numbered_keys.Goals as goal

pub loop-at-init : goal.loop-at-init
loop-at-init c = none_numbered c.args.states.now c.in_ok-numbers.numbers.items c.in_ok-numbers.ensures.items

pub loop-at-preserved : goal.loop-at-preserved
loop-at-preserved c =
    numbered_more c.args.states.now c.loop-at.at c.index-states-at.result c.in_ok-copy.field-0 c.in_ok-number.number c.loop-at.numbers.items c.push.new.self.items c.loop-at-test.true c.index-states-at.is
    c.in_ok-copy.ensures c.in_ok-number.ensures c.in_ok-push.ensures.items c.loop-at.invariant

pub returns : goal.returns
returns c = numbered_all c.args.states.now c.loop-at.at c.loop-at.numbers.items c.loop-at-test.false c.loop-at.invariant
