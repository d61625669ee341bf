use Rattle.std.proofs.Common.{◌≡◌, Some, ap}
use Rattle.lc_model.proofs.KeyLemmas.{same_key_parts}
use Rattle.journey_text.proofs.answer_reading.key_of.Goals as goal

pub returns-in-Some : goal.returns-in-Some
returns-in-Some c = λ key text trip_is date_is start_is.
    let a = c.in_ok-trip.ensures.exact key.trip text trip_is in
    let b = c.read_date.ensures.exact key.date date_is in
    let d = c.read_start_part.ensures.exact key.start key.start_in_range start_is in
    let e = c.in-Some.is in
    let f = c.in-Some-Some.is-0 in
    let g = c.in-Some-Some.is-1 in
    let trip : c.in-Some.trip ≡ key.trip = cc in
    let date : c.in-Some-Some.date ≡ key.date = cc in
    let start : c.in-Some-Some.start ≡ key.start = cc in
    ap Some (same_key_parts _ key trip date start)
