-- One more of the changes has its ends among the stops.
use Rattle.std.proofs.Common.{All, arith, subst}
use Rattle.std.proofs.lemmas.List.{take_all}
use Rattle.std.proofs.lemmas.List.Elements.{All-more}
use Rattle.lc_model.specs.Stop.{HasStop}
use Rattle.lc_model.specs.declared.change.Change.{Change}
use Rattle.page_json.proofs.written_stops.has_ends.Goals as goal

pub loop-change-preserved : goal.loop-change-preserved
loop-change-preserved c =
    let item = c.change-item in
    let so = c.loop-change.invariant in
    let place = c.loop-change.change-index in
    let changes = c.args.changes.now in
    let From : Change → Type 0 = λ x. HasStop c.args.stops.now x.from in
    let To : Change → Type 0 = λ x. HasStop c.args.stops.now x.to in
    record {
      from = All-more From changes place item.result (omega arith) so.from (subst From item.is (c.has.ensures.0 c.if-not-has.false));
      to = All-more To changes place item.result (omega arith) so.to (subst To item.is (c.has-else-not-has.ensures.0 c.if-not-has-2.false));
    }

pub returns-clause-from : goal.returns-clause-from
returns-clause-from c = λ _. subst (All (λ (x : Change). HasStop c.args.stops.now x.from)) (take_all _ c.args.changes.now (omega arith)) c.loop-change.invariant.from

pub returns-clause-to : goal.returns-clause-to
returns-clause-to c = λ _. subst (All (λ (x : Change). HasStop c.args.stops.now x.to)) (take_all _ c.args.changes.now (omega arith)) c.loop-change.invariant.to
