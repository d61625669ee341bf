use Rattle.std.proofs.Common.{rules, arith, ap, ◌∙◌}
use Rattle.std.proofs.lemmas.List.{get_or_read}
use Rattle.lc_model.specs.declared.call.Call.{Call}
use Rattle.live_calls.specs.Places.{IsOfCall}
use Rattle.live_calls.specs.declared.naming.StopPlace.{StopPlace}
use Rattle.live_calls.proofs.PlacesLemmas.{ArePlaces-moved, ArePlaces-push}
use Rattle.live_calls.proofs.naming.stop_places.Goals as goal

pub calls-preserved : goal.calls-preserved
calls-preserved c =
    let calls = c.args.calls.now in
    let here : StopPlace = record { stop = c.bytes-stop.result; place = c.calls.place } in
    let of_call : IsOfCall calls here = (
      c.calls-test.true,
      (λ d. c.bytes-stop.ensures.value ∙ ap (λ (call : Call). call.stop) (get_or_read calls c.calls.place c.index-calls-place.result c.calls-test.true c.index-calls-place.is d)),
    ) in
    let more = ArePlaces-push calls c.calls.place c.calls.places.items here c.calls.invariant (search rules) of_call in search rules

pub returns : goal.returns
returns c =
    let moved = ArePlaces-moved c.args.calls.now c.calls.place c.calls.places.items c.sort.new.self.items c.sort.ensures.permutation c.calls.invariant in
    record {
      of_calls = record { each = λ k less. moved.each k (omega arith); only = moved.only };
      sorted = c.in_ok-sort.ensures.sorted;
    }
