use Rattle.std.proofs.Common.{List, arith, subst, take_all}
use Rattle.version_store.specs.Filed.{PushesAllAt}
use Rattle.version_store.specs.declared.kept.Marked.{Marked}
use Rattle.version_store.proofs.FiledLemmas.{none_pushed, pushed_more}
use Rattle.version_store.proofs.filed.push_all.Goals as goal

pub own-init : goal.own-init
own-init c = none_pushed c.args.by c.args.patch.now

pub own-preserved : goal.own-preserved
own-preserved c =
    pushed_more c.args.by c.args.own.now c.own.marked-index c.marked-item.result c.text_of.result.now c.args.patch.now c.own.patch c.push_at.new.patch c.own-test.true c.marked-item.is c.text_of.ensures c.own.invariant
    c.in_ok-push_at.ensures

pub returns : goal.returns
returns c = subst (λ (v : List Marked). PushesAllAt c.args.by v c.args.patch.now c.own.patch) (take_all c.own.marked-index c.args.own.now (omega arith)) c.own.invariant
