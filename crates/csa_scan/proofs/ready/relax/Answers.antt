use Rattle.std.proofs.Common.{List, ℕ, get_or, ap, ◌∙◌, sym, subst, arith}
use Rattle.std.proofs.lemmas.List.{take_all}
use Rattle.lc_model.specs.Change.{InChangeOrder, changes_from}
use Rattle.lc_model.specs.declared.change.Change.{Change}
use Rattle.lc_model.specs.declared.stop.Stop.{Stop}
use Rattle.csa_scan.specs.Relaxed.{IsRelaxed, Improves}
use Rattle.csa_scan.proofs.RelaxingLemmas.{relaxed_none, relaxed_more}
use Rattle.csa_scan.proofs.SoughtLemmas.{id_at-get_or}
use Rattle.csa_scan.proofs.ready.relax.Goals as goal

pub loop-change-init : goal.loop-change-init
loop-change-init c = relaxed_none c.args.doc.now.stops c.args.after c.args.arr c.args.ready.now

pub loop-change-preserved : goal.loop-change-preserved
loop-change-preserved c =
    let change = c.change-item.result in
    let P : List Stop → Type 0 = λ stops. Improves stops change.to c.changed_at.result c.args.after c.loop-change.ready c.improve.new.ready in
    let Q : ℕ → Type 0 = λ n. Improves c.args.doc.now.stops change.to n c.args.after c.loop-change.ready c.improve.new.ready in
    relaxed_more c.args.doc.now.stops c.from-change-items.result.now c.loop-change.change-index change c.args.after c.args.arr c.args.ready.now c.loop-change.ready c.improve.new.ready
    (omega arith) c.change-item.is c.loop-change.invariant (subst Q c.changed_at.ensures (subst P c.as_slice-stops.ensures.value c.improve.ensures))

pub returns : goal.returns
returns c =
    let changes = c.from-change-items.result.now in
    let P : List Change → Type 0 = λ cs. IsRelaxed c.args.doc.now.stops cs c.args.after c.args.arr c.args.ready.now c.loop-change.ready in
    let d = c.index-stops-stop.result in
    let id = ap (λ (stops : List Stop). (get_or stops c.args.stop d).id) c.as_slice-stops.ensures.value ∙ sym (id_at-get_or c.args.doc.now.stops c.args.stop d c.requires.within) in
    let from = c.from-change-items.ensures ∙ ap (changes_from c.args.doc.now.changes) id in
    let R : List Change → Type 0 = λ cs. IsRelaxed c.args.doc.now.stops cs c.args.after c.args.arr c.args.ready.now c.loop-change.ready in
    record {
      in_order = let O : List Change → Type 0 = InChangeOrder in subst O c.as_slice-in_order.ensures.value c.as_slice-in_order.ensures.in_order;
      relaxed = subst R from (subst P (take_all c.loop-change.change-index changes (omega arith)) c.loop-change.invariant);
    }
