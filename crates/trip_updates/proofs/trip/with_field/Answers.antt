use Rattle.std.proofs.Common.{Some, Ok, Err, sym, ◌∙◌}
use Rattle.std.proofs.lemmas.Result.{err_from_is_err_and}
use Rattle.trip_updates.specs.declared.fault.Part.TheVariants as parts
use Rattle.trip_updates.specs.Tree.{last_message, messages}
use Rattle.trip_updates.specs.Table.{trip_update, trip_descriptor, stop_time_update}
use Rattle.trip_updates.specs.Faults.{read}
use Rattle.trip_updates.specs.Meaning.{stop_news_of}
use Rattle.trip_updates.specs.Shows.{ShowsDescriptor, ShowsNews, ShowsTrip}
use Rattle.trip_updates.proofs.EmbeddedLemmas.{in_span, span_at, none_both, one_ok, one_err, many_ok, many_err}
use Rattle.trip_updates.proofs.SaidLemmas.{one_more}
use Rattle.trip_updates.proofs.trip.with_field.Goals as goal

pub returns-in_err-read_descriptor-in-1-Span : goal.returns-in_err-read_descriptor-in-1-Span
returns-in_err-read_descriptor-in-1-Span c = λ before shown.
    let p = err_from_is_err_and c.from_residual.result c.from_residual.ensures.1 in
    let s = span_at _ _ _ _ _ c.in-1-Span.is-1 c.requires in
    let first = none_both ShowsDescriptor c.args.trip.descriptor (last_message 1 before) shown.descriptor (sym c.is_some.ensures ∙ c.if-is_some.false) in
    rw (p.1, p.2) (in_span ShowsTrip (Err c.in_err-read_descriptor-in-1-Span.field-0.0) (read 1) trip_update before c.args.bytes.now c.args.field 1 _ _ c.in-1-Span.is-0 c.in-1-Span.is-1
    (one_err ShowsDescriptor ShowsTrip (read 1) parts.Trip trip_descriptor before c.args.field.next 1 _ _ c.args.bytes.now c.in_err-read_descriptor-in-1-Span.field-0.0 first s.0 s.1 s.2 c.in_err-read_descriptor-in-1-Span.ensures))

pub returns-in_ok-read_descriptor-in-1-Span : goal.returns-in_ok-read_descriptor-in-1-Span
returns-in_ok-read_descriptor-in-1-Span c = λ before shown.
    let s = span_at _ _ _ _ _ c.in-1-Span.is-1 c.requires in
    let first = none_both ShowsDescriptor c.args.trip.descriptor (last_message 1 before) shown.descriptor (sym c.is_some.ensures ∙ c.if-is_some.false) in
    in_span ShowsTrip (Ok (record c.args.trip { descriptor = Some c.in_ok-read_descriptor-in-1-Span.field-0 })) (read 1) trip_update before c.args.bytes.now c.args.field 1 _ _ c.in-1-Span.is-0 c.in-1-Span.is-1
    (one_ok ShowsDescriptor ShowsTrip (read 1) parts.Trip trip_descriptor before c.args.field.next 1 _ _ c.args.bytes.now c.in_ok-read_descriptor-in-1-Span.field-0 (Ok (record c.args.trip { descriptor = Some c.in_ok-read_descriptor-in-1-Span.field-0 })) first s.0 s.1 s.2 c.in_ok-read_descriptor-in-1-Span.ensures
    (λ tree shows. record { descriptor = shows; stops = shown.stops }))

pub returns-in_err-news-in-2-Span : goal.returns-in_err-news-in-2-Span
returns-in_err-news-in-2-Span c = λ before shown.
    let p = err_from_is_err_and c.from_residual-in_err-news-in-2-Span.result c.from_residual-in_err-news-in-2-Span.ensures.1 in
    let s = span_at _ _ _ _ _ c.in-2-Span.is-1 c.requires in
    rw (p.1, p.2) (in_span ShowsTrip (Err c.in_err-news-in-2-Span.field-0.0) (read 1) trip_update before c.args.bytes.now c.args.field 2 _ _ c.in-2-Span.is-0 c.in-2-Span.is-1
    (many_err ShowsNews ShowsTrip (read 1) stop_time_update before c.args.field.next 2 _ _ c.args.bytes.now c.in_err-news-in-2-Span.field-0.0 s.0 s.1 s.2 c.in_err-news-in-2-Span.ensures))

pub returns-in_ok-push-in-2-Span : goal.returns-in_ok-push-in-2-Span
returns-in_ok-push-in-2-Span c = λ before shown.
    let s = span_at _ _ _ _ _ c.in-2-Span.is-1 c.requires in
    in_span ShowsTrip (Ok (record c.args.trip { stops = c.push.new.self })) (read 1) trip_update before c.args.bytes.now c.args.field 2 _ _ c.in-2-Span.is-0 c.in-2-Span.is-1
    (many_ok ShowsNews ShowsTrip (read 1) stop_time_update before c.args.field.next 2 _ _ c.args.bytes.now c.in_ok-news-in-2-Span.news (Ok (record c.args.trip { stops = c.push.new.self })) s.0 s.1 s.2 c.in_ok-news-in-2-Span.ensures
    (λ tree shows. record {
      descriptor = shown.descriptor;
      stops = one_more stop_news_of c.push.new.self.items c.args.trip.stops.items c.in_ok-news-in-2-Span.news (messages 2 before) tree c.in_ok-push-in-2-Span.ensures.items shown.stops shows;
    }))
