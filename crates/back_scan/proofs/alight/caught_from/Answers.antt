use Rattle.std.proofs.Common.{ℕ, List, get_or, ap, ◌∙◌, sym, subst}
use Rattle.std.proofs.lemmas.List.{take_all}
use Rattle.lc_model.specs.Change.{InChangeOrder, changes_from}
use Rattle.lc_model.specs.declared.change.Change.{Change}
use Rattle.lc_model.specs.declared.stop.Stop.{Stop}
use Rattle.csa_scan.proofs.SoughtLemmas.{id_at-get_or}
use Rattle.back_scan.specs.Alights.{Catches}
use Rattle.back_scan.proofs.CatchingLemmas.{CatchesNone, catches_no_more, changes_to_none, changes_to_one}
use Rattle.back_scan.proofs.alight.caught_from.Goals as goal

pub loop-change-preserved : goal.loop-change-preserved
loop-change-preserved c =
    let doc = c.args.doc.now in
    let change = c.change-item.result in
    let S : List Stop → Type 0 = λ stops. (place : ℕ) → Catches stops c.args.departures.now change c.args.arr place → ⊥ in
    catches_no_more doc.stops c.args.departures.now c.from-change-items.result.now c.args.arr c.loop-change.change-index change c.loop-change-test.true c.change-item.is c.loop-change.invariant
    (subst S c.as_slice-stops.ensures.value c.in_default.ensures)

pub returns-in-Some : goal.returns-in-Some
returns-in-Some c =
    let doc = c.args.doc.now in
    let stop = c.args.stop in
    let change = c.change-item.result in
    let d = c.index-stops-stop.result in
    let id = ap (λ (stops : List Stop). (get_or stops stop d).id) c.as_slice-stops.ensures.value ∙ sym (id_at-get_or doc.stops stop d c.requires.within) in
    let from = c.from-change-items.ensures ∙ ap (changes_from doc.changes) id in
    let O : List Change → Type 0 = InChangeOrder in
    let S : List Stop → Type 0 = λ stops. Catches stops c.args.departures.now change c.args.arr c.in-Some.place in
    changes_to_one doc c.args.departures.now stop c.args.arr (subst O c.as_slice-in_order.ensures.value c.as_slice-in_order.ensures.in_order) c.from-change-items.result.now from
    c.loop-change.change-index change c.loop-change-test.true c.change-item.is c.in-Some.place (subst S c.as_slice-stops.ensures.value c.in-Some.ensures)

pub returns : goal.returns
returns c =
    let doc = c.args.doc.now in
    let stop = c.args.stop in
    let changes = c.from-change-items.result.now in
    let d = c.index-stops-stop.result in
    let id = ap (λ (stops : List Stop). (get_or stops stop d).id) c.as_slice-stops.ensures.value ∙ sym (id_at-get_or doc.stops stop d c.requires.within) in
    let from = c.from-change-items.ensures ∙ ap (changes_from doc.changes) id in
    let P : List Change → Type 0 = λ cs. CatchesNone doc.stops c.args.departures.now cs c.args.arr in
    changes_to_none doc c.args.departures.now stop c.args.arr c.requires.one_each (subst P from (subst P (take_all c.loop-change.change-index changes c.loop-change-test.false) c.loop-change.invariant))
