use Rattle.std.proofs.Common.{ℕ, List, subst, arith}
use Rattle.std.proofs.lemmas.List.{take_all}
use Rattle.lc_model.specs.Change.{InChangeOrder}
use Rattle.lc_model.specs.declared.change.Change.{Change}
use Rattle.lc_model.specs.declared.stop.Stop.{Stop}
use Rattle.csa_scan.specs.Near.{ComesNear, outer_of}
use Rattle.csa_scan.proofs.NearnessLemmas.{AreNearBy, near_by_all, near_by_more}
use Rattle.csa_scan.proofs.near.walk_all.Goals as goal

pub loop-change-preserved : goal.loop-change-preserved
loop-change-preserved c =
    let change = c.change-item.result in
    let changes = c.as_slice-changes.result.now in
    let stops = c.args.doc.now.stops in
    let named = c.args.named.now in
    let near = c.loop-change.near in
    let new = c.come_near.new.near in
    let S : List Stop → Type 0 = λ l. ComesNear l named c.outer.result.now c.inner.result.now change.seconds near new in
    let O : List ℕ → Type 0 = λ id. ComesNear stops named id c.inner.result.now change.seconds near new in
    let I : List ℕ → Type 0 = λ id. ComesNear stops named (outer_of c.args.side change) id change.seconds near new in
    near_by_more c.args.side stops named changes c.loop-change.change-index change near new c.as_slice-changes.ensures.in_order (omega arith) c.change-item.is c.loop-change.invariant
    (subst I c.inner.ensures (subst O c.outer.ensures (subst S c.as_slice-stops.ensures.value c.come_near.ensures)))

pub returns : goal.returns
returns c =
    let side = c.args.side in
    let stops = c.args.doc.now.stops in
    let named = c.args.named.now in
    let changes = c.as_slice-changes.result.now in
    let near = c.loop-change.near in
    let P : List Change → Type 0 = λ cs. AreNearBy side stops named cs near in
    let O : List Change → Type 0 = InChangeOrder in
    let same = c.as_slice-changes.ensures.value in
    near_by_all side c.args.doc.now (subst O same c.as_slice-changes.ensures.in_order) named near
    (subst P same (subst P (take_all c.loop-change.change-index changes (omega arith)) c.loop-change.invariant))
