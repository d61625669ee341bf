use Rattle.std.proofs.Common.{◌∙◌, inl, inr, sym}
use Rattle.std.proofs.lemmas.Bool.{false≢true}
use Rattle.std.proofs.lemmas.Slice.Eq.{bytes_eq-Decides}
use Rattle.csa_scan.proofs.SoughtLemmas.{end_there}
use Rattle.csa_scan.proofs.places.is_end.Goals as goal

pub returns-then-eq : goal.returns-then-eq
returns-then-eq c =
    let stop = c.index-stops-place.result in
    let named = c.args.named.now in
    let there = end_there c.args.stops.now c.requires.in_order c.args.place stop c.requires.within c.index-stops-place.is named in
    ((λ t. there.0 (inl ((bytes_eq-Decides stop.id named).0 (sym c.eq.ensures ∙ c.if-eq.true)))), (λ e. c.if-eq.true))

pub returns-else-eq : goal.returns-else-eq
returns-else-eq c =
    let stop = c.index-stops-place.result in
    let named = c.args.named.now in
    let there = end_there c.args.stops.now c.requires.in_order c.args.place stop c.requires.within c.index-stops-place.is named in (
      (λ t. there.0 (inr (c.has_parent.ensures.0 t))),
      (λ e. elim (there.1 e) [
        | inl same ↦ absurd (false≢true (sym c.if-eq.false ∙ c.eq.ensures ∙ (bytes_eq-Decides stop.id named).1 same))
        | inr child ↦ c.has_parent.ensures.1 child
      ]),
    )
