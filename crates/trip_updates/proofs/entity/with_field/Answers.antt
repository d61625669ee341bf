use Rattle.std.proofs.Common.{Some, Ok, Err, sym, ap, ◌∙◌}
use Rattle.std.proofs.lemmas.Result.{err_from_is_err_and}
use Rattle.trip_updates.specs.declared.fault.Part.TheVariants as parts
use Rattle.trip_updates.specs.Tree.{last_message}
use Rattle.trip_updates.specs.Table.{feed_entity, trip_update}
use Rattle.trip_updates.specs.Faults.{read}
use Rattle.trip_updates.specs.Meaning.{news_of, passed_or}
use Rattle.trip_updates.specs.Shows.{ShowsSaid, ShowsEntityFields}
use Rattle.trip_updates.proofs.EmbeddedLemmas.{in_span, span_at, none_yet, one_ok, one_err}
use Rattle.trip_updates.proofs.entity.with_field.Goals as goal

pub returns-in_err-read_trip-in-3-Span : goal.returns-in_err-read_trip-in-3-Span
returns-in_err-read_trip-in-3-Span c = λ before shown.
    let p = err_from_is_err_and c.from_residual.result c.from_residual.ensures.1 in
    let s = span_at _ _ _ _ _ c.in-3-Span.is-1 c.requires in
    let first = none_yet (λ update. passed_or (news_of update)) (last_message 3 before) c.args.entity.said shown.said (sym c.is_some.ensures ∙ c.if-is_some.false) in
    rw (p.1, p.2) (in_span ShowsEntityFields (Err c.in_err-read_trip-in-3-Span.field-0.0) (read 2) feed_entity before c.args.bytes.now c.args.field 3 _ _ c.in-3-Span.is-0 c.in-3-Span.is-1
    (one_err ShowsSaid ShowsEntityFields (read 2) parts.TripUpdate trip_update before c.args.field.next 3 _ _ c.args.bytes.now c.in_err-read_trip-in-3-Span.field-0.0 first s.0 s.1 s.2 c.in_err-read_trip-in-3-Span.ensures))

pub returns-in_ok-read_trip-in-3-Span : goal.returns-in_ok-read_trip-in-3-Span
returns-in_ok-read_trip-in-3-Span c = λ before shown.
    let s = span_at _ _ _ _ _ c.in-3-Span.is-1 c.requires in
    let first = none_yet (λ update. passed_or (news_of update)) (last_message 3 before) c.args.entity.said shown.said (sym c.is_some.ensures ∙ c.if-is_some.false) in
    in_span ShowsEntityFields (Ok (record c.args.entity { said = Some c.in_ok-read_trip-in-3-Span.field-0 })) (read 2) feed_entity before c.args.bytes.now c.args.field 3 _ _ c.in-3-Span.is-0 c.in-3-Span.is-1
    (one_ok ShowsSaid ShowsEntityFields (read 2) parts.TripUpdate trip_update before c.args.field.next 3 _ _ c.args.bytes.now c.in_ok-read_trip-in-3-Span.field-0 (Ok (record c.args.entity { said = Some c.in_ok-read_trip-in-3-Span.field-0 })) first s.0 s.1 s.2 c.in_ok-read_trip-in-3-Span.ensures
    (λ tree shows. record { id = shown.id; deleted = shown.deleted; said = ap (λ x. Some x) shows }))
