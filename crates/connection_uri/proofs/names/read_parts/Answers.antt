use Rattle.std.proofs.Common.{◌≡◌}
use Rattle.connection_uri.proofs.NameLemmas.{same_key, same_pair}
use Rattle.connection_uri.proofs.names.read_parts.Goals as goal

pub returns-clause-exact : goal.returns-clause-exact
returns-clause-exact c = λ key sequence text small parts.
    let a = c.in_ok-trip.ensures.exact key.trip text parts.trip_is in
    let b = c.read_date.ensures.exact key.date parts.date_is in
    let d = c.read_start_part.ensures.exact key.start key.start_in_range parts.start_is in
    let e = c.read_decimal.ensures.exact sequence small parts.sequence_is in
    let f = c.in-Some.is in
    let g0 = c.in-Some-Some-Some.is-0 in
    let g1 = c.in-Some-Some-Some.is-1 in
    let g2 = c.in-Some-Some-Some.is-2 in
    let trip : c.in-Some.trip ≡ key.trip = cc in
    let date : c.in-Some-Some-Some.date ≡ key.date = cc in
    let start : c.in-Some-Some-Some.start ≡ key.start = cc in
    let number : c.in-Some-Some-Some.sequence ≡ sequence = cc in
    same_pair _ key _ sequence (same_key _ key trip date start) number
