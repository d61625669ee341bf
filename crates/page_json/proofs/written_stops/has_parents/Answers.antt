-- One more of the parents is a stop.
use Rattle.std.proofs.Common.{All, arith, subst}
use Rattle.std.proofs.lemmas.List.{take_all}
use Rattle.std.proofs.lemmas.List.Elements.{All-more}
use Rattle.std.specs.Option.{IfSome}
use Rattle.lc_model.specs.Stop.{HasStop}
use Rattle.lc_model.specs.declared.stop.Stop.{Stop}
use Rattle.page_json.proofs.written_stops.has_parents.Goals as goal

pub loop-child-preserved : goal.loop-child-preserved
loop-child-preserved c =
    let item = c.child-item in
    let Known : Stop → Type 0 = λ s. IfSome s.parent (HasStop c.args.stops.now) in
    All-more Known c.args.children.now c.loop-child.child-index item.result (omega arith) c.loop-child.invariant (subst Known item.is (c.has_parent.ensures c.if-not-has_parent.false))

pub returns : goal.returns
returns c = λ _. subst (All (λ (s : Stop). IfSome s.parent (HasStop c.args.stops.now))) (take_all _ c.args.children.now (omega arith)) c.loop-child.invariant
