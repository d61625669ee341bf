-- One step after the other.
use Rattle.std.proofs.Common.{Ok, Err, refl, subst, sym}
use Rattle.page_json.specs.ObjectMembers.View.{items_view, view}
use Rattle.lc_model.specs.Disorder.{first_disorder}
use Rattle.page_json.specs.ObjectMembers.Disorder.{unless_disorder}
use Rattle.page_json.specs.ObjectMembers.Reading.{exactly}
use Rattle.page_json.specs.StopsReading.{AreParents, stops_in}
use Rattle.std.specs.Ordering.{on}
use Rattle.lc_model.specs.Text.{id_cmp}
use Rattle.lc_model.specs.declared.stop.Stop.{Stop}
use Rattle.page_json.proofs.ObjectMembersLemmas.EachLemmas.{items_seen}
use Rattle.page_json.proofs.ObjectMembersLemmas.ReadingsLemmas.{meets_err, meets_last}
use Rattle.page_json.proofs.stops_reading.stops_in.Goals as goal

pub returns-clause-said : goal.returns-clause-said
unfolding stops_in
returns-clause-said c =
    meets_last (exactly (unless_disorder (first_disorder (on (λ (s : Stop). s.id) id_cmp) c.in_ok-stops.stops.items) c.in_ok-stops.stops.items)) (stops_in (view c.args.value.now)) c.ordered_stops.result
    (λ r last. (Ok (items_view c.deref.result.now), items_seen _ _ _ c.deref.ensures.value c.in_ok-items.ensures.ok, (Ok c.in_ok-stops.stops.items, c.in_ok-stops.ensures.ok, (Ok c.in_ok-stops.stops.items, (refl, subst AreParents c.as_slice.ensures.value c.in_ok-with_parents.ensures.ok), last))))
    c.ordered_stops.ensures.said

pub returns-in_err-items-clause-said : goal.returns-in_err-items-clause-said
unfolding stops_in
returns-in_err-items-clause-said c =
    let fault = c.in_err-items.field-0.0 in
    meets_err (stops_in (view c.args.value.now)) c.from_residual.result fault c.from_residual.ensures.1
    (λ other. (Err fault, sym (c.in_err-items.ensures.err other), refl))

pub returns-in_err-stops-clause-said : goal.returns-in_err-stops-clause-said
unfolding stops_in
returns-in_err-stops-clause-said c =
    let fault = c.in_err-stops.field-0.0 in
    meets_err (stops_in (view c.args.value.now)) c.from_residual-in_err-stops.result fault c.from_residual-in_err-stops.ensures.1
    (λ other. (Ok (items_view c.deref.result.now), items_seen _ _ _ c.deref.ensures.value c.in_ok-items.ensures.ok, (Err fault, c.in_err-stops.ensures.err other, refl)))

pub returns-in_err-with_parents-clause-said : goal.returns-in_err-with_parents-clause-said
unfolding stops_in
returns-in_err-with_parents-clause-said c =
    let fault = c.in_err-with_parents.field-0.0 in
    meets_err (stops_in (view c.args.value.now)) c.from_residual-in_err-with_parents.result fault c.from_residual-in_err-with_parents.ensures.1
    (λ other. (Ok (items_view c.deref.result.now), items_seen _ _ _ c.deref.ensures.value c.in_ok-items.ensures.ok, (Ok c.in_ok-stops.stops.items, c.in_ok-stops.ensures.ok, (Err fault, (let none = c.in_err-with_parents.ensures.err other in (none.0, λ are. none.1 (subst AreParents (sym c.as_slice.ensures.value) are))), refl))))
