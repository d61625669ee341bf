use Rattle.std.proofs.Common.{◌≡◌, ◌∙◌, ◌<◌, ℕ, List, Some, ap, arith, length, subst, sym}
use Rattle.std.specs.List.{slice_get}
use Rattle.std.proofs.lemmas.Option.{slice_get-get_or}
use Rattle.lc_model.specs.declared.stop.Stop.{Stop}
use Rattle.csa_scan.specs.PlaceOf.{IsPlaceOf}
use Rattle.csa_scan.proofs.board.new_arrival.Goals as goal

pub returns-then-is_reached : goal.returns-then-is_reached
returns-then-is_reached c = λ may stop within same.
    let reached = c.args.reached.now in
    let place = c.in_ok-stop.stop in
    let P : List Stop → Type 0 = λ stops. IsPlaceOf stops c.args.connection.now.arr_stop place in
    let at = subst P c.as_slice.ensures.value c.in_ok-stop.ensures in
    let inside : place < length reached = let l = at.within in let r = c.requires in omega arith in
    let by = c.is_reached.ensures.0 c.if-is_reached.true in
    let Q : ℕ → Type 0 = λ s. slice_get reached s ≡ Some (Some by.0) in
    (by.0, subst Q (sym (at.only stop within same)) (slice_get-get_or reached place c.index-reached-stop.result inside ∙ ap Some (sym c.index-reached-stop.is ∙ by.1)), by.2)
