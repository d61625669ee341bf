use Rattle.std.proofs.Common.{Some, Ok, Err, sym, ap, ◌∙◌}
use Rattle.std.proofs.lemmas.Result.{err_from_is_err_and}
use Rattle.trip_updates.specs.declared.fault.Part.TheVariants as parts
use Rattle.trip_updates.specs.Tree.{last_message}
use Rattle.trip_updates.specs.Table.{stop_time_update, stop_time_event}
use Rattle.trip_updates.specs.Faults.{read}
use Rattle.trip_updates.specs.Meaning.{event_of}
use Rattle.trip_updates.specs.Shows.{ShowsEvent, ShowsStop}
use Rattle.trip_updates.proofs.EmbeddedLemmas.{in_span, span_at, none_yet, one_ok, one_err}
use Rattle.trip_updates.proofs.stop.with_field.Goals as goal

pub returns-in_err-arrival-in-2-Span : goal.returns-in_err-arrival-in-2-Span
returns-in_err-arrival-in-2-Span c = λ before shown.
    let p = err_from_is_err_and c.from_residual.result c.from_residual.ensures.1 in
    let s = span_at _ _ _ _ _ c.in-2-Span.is-1 c.requires in
    let first = none_yet event_of (last_message 2 before) c.args.stop.arrival shown.arrival (sym c.is_some.ensures ∙ c.if-is_some.false) in
    rw (p.1, p.2) (in_span ShowsStop (Err c.in_err-arrival-in-2-Span.field-0.0) (read 0) stop_time_update before c.args.bytes.now c.args.field 2 _ _ c.in-2-Span.is-0 c.in-2-Span.is-1
    (one_err ShowsEvent ShowsStop (read 0) parts.Arrival stop_time_event before c.args.field.next 2 _ _ c.args.bytes.now c.in_err-arrival-in-2-Span.field-0.0 first s.0 s.1 s.2 c.in_err-arrival-in-2-Span.ensures))

pub returns-in_ok-arrival-in-2-Span : goal.returns-in_ok-arrival-in-2-Span
returns-in_ok-arrival-in-2-Span c = λ before shown.
    let s = span_at _ _ _ _ _ c.in-2-Span.is-1 c.requires in
    let first = none_yet event_of (last_message 2 before) c.args.stop.arrival shown.arrival (sym c.is_some.ensures ∙ c.if-is_some.false) in
    in_span ShowsStop (Ok (record c.args.stop { arrival = Some c.in_ok-arrival-in-2-Span.arrival })) (read 0) stop_time_update before c.args.bytes.now c.args.field 2 _ _ c.in-2-Span.is-0 c.in-2-Span.is-1
    (one_ok ShowsEvent ShowsStop (read 0) parts.Arrival stop_time_event before c.args.field.next 2 _ _ c.args.bytes.now c.in_ok-arrival-in-2-Span.arrival (Ok (record c.args.stop { arrival = Some c.in_ok-arrival-in-2-Span.arrival })) first s.0 s.1 s.2 c.in_ok-arrival-in-2-Span.ensures
    (λ tree shows. record { seq = shown.seq; named = shown.named; relation = shown.relation; arrival = ap (λ e. Some e) shows; departure = shown.departure }))

pub returns-in_err-departure-in-3-Span : goal.returns-in_err-departure-in-3-Span
returns-in_err-departure-in-3-Span c = λ before shown.
    let p = err_from_is_err_and c.from_residual-in_err-departure-in-3-Span.result c.from_residual-in_err-departure-in-3-Span.ensures.1 in
    let s = span_at _ _ _ _ _ c.in-3-Span.is-1 c.requires in
    let first = none_yet event_of (last_message 3 before) c.args.stop.departure shown.departure (sym c.is_some-in-3-Span.ensures ∙ c.if-is_some-2.false) in
    rw (p.1, p.2) (in_span ShowsStop (Err c.in_err-departure-in-3-Span.field-0.0) (read 0) stop_time_update before c.args.bytes.now c.args.field 3 _ _ c.in-3-Span.is-0 c.in-3-Span.is-1
    (one_err ShowsEvent ShowsStop (read 0) parts.Departure stop_time_event before c.args.field.next 3 _ _ c.args.bytes.now c.in_err-departure-in-3-Span.field-0.0 first s.0 s.1 s.2 c.in_err-departure-in-3-Span.ensures))

pub returns-in_ok-departure-in-3-Span : goal.returns-in_ok-departure-in-3-Span
returns-in_ok-departure-in-3-Span c = λ before shown.
    let s = span_at _ _ _ _ _ c.in-3-Span.is-1 c.requires in
    let first = none_yet event_of (last_message 3 before) c.args.stop.departure shown.departure (sym c.is_some-in-3-Span.ensures ∙ c.if-is_some-2.false) in
    in_span ShowsStop (Ok (record c.args.stop { departure = Some c.in_ok-departure-in-3-Span.departure })) (read 0) stop_time_update before c.args.bytes.now c.args.field 3 _ _ c.in-3-Span.is-0 c.in-3-Span.is-1
    (one_ok ShowsEvent ShowsStop (read 0) parts.Departure stop_time_event before c.args.field.next 3 _ _ c.args.bytes.now c.in_ok-departure-in-3-Span.departure (Ok (record c.args.stop { departure = Some c.in_ok-departure-in-3-Span.departure })) first s.0 s.1 s.2 c.in_ok-departure-in-3-Span.ensures
    (λ tree shows. record { seq = shown.seq; named = shown.named; relation = shown.relation; arrival = shown.arrival; departure = ap (λ e. Some e) shows }))
