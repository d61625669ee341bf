use Rattle.std.proofs.Common.{Some, Ok, Err, sym, ap, ◌∙◌}
use Rattle.std.proofs.lemmas.Result.{err_from_is_err_and}
use Rattle.trip_updates.specs.declared.fault.Part.TheVariants as parts
use Rattle.trip_updates.specs.Tree.{last_message, messages}
use Rattle.trip_updates.specs.Table.{feed_message, feed_header, feed_entity}
use Rattle.trip_updates.specs.Faults.{read}
use Rattle.trip_updates.specs.Meaning.{head_of, entity_of}
use Rattle.trip_updates.specs.Shows.{ShowsHead, ShowsEntity, ShowsFeed}
use Rattle.trip_updates.proofs.EmbeddedLemmas.{in_span, span_at, none_yet, one_ok, one_err, many_ok, many_err}
use Rattle.trip_updates.proofs.SaidLemmas.{one_more}
use Rattle.trip_updates.proofs.message.with_field.Goals as goal

pub returns-in_err-read_header-in-1-Span : goal.returns-in_err-read_header-in-1-Span
returns-in_err-read_header-in-1-Span c = λ before shown.
    let p = err_from_is_err_and c.from_residual.result c.from_residual.ensures.1 in
    let s = span_at _ _ _ _ _ c.in-1-Span.is-1 c.requires in
    let first = none_yet head_of (last_message 1 before) c.args.feed.head shown.head (sym c.is_some.ensures ∙ c.if-is_some.false) in
    rw (p.1, p.2) (in_span ShowsFeed (Err c.in_err-read_header-in-1-Span.field-0.0) (read 3) feed_message before c.args.bytes.now c.args.field 1 _ _ c.in-1-Span.is-0 c.in-1-Span.is-1
    (one_err ShowsHead ShowsFeed (read 3) parts.Header feed_header before c.args.field.next 1 _ _ c.args.bytes.now c.in_err-read_header-in-1-Span.field-0.0 first s.0 s.1 s.2 c.in_err-read_header-in-1-Span.ensures))

pub returns-in_ok-read_header-in-1-Span : goal.returns-in_ok-read_header-in-1-Span
returns-in_ok-read_header-in-1-Span c = λ before shown.
    let s = span_at _ _ _ _ _ c.in-1-Span.is-1 c.requires in
    let first = none_yet head_of (last_message 1 before) c.args.feed.head shown.head (sym c.is_some.ensures ∙ c.if-is_some.false) in
    in_span ShowsFeed (Ok (record c.args.feed { head = Some c.in_ok-read_header-in-1-Span.field-0 })) (read 3) feed_message before c.args.bytes.now c.args.field 1 _ _ c.in-1-Span.is-0 c.in-1-Span.is-1
    (one_ok ShowsHead ShowsFeed (read 3) parts.Header feed_header before c.args.field.next 1 _ _ c.args.bytes.now c.in_ok-read_header-in-1-Span.field-0 (Ok (record c.args.feed { head = Some c.in_ok-read_header-in-1-Span.field-0 })) first s.0 s.1 s.2 c.in_ok-read_header-in-1-Span.ensures
    (λ tree shows. record { head = ap (λ x. Some x) shows; entities = shown.entities }))

pub returns-in_err-entity-in-2-Span : goal.returns-in_err-entity-in-2-Span
returns-in_err-entity-in-2-Span c = λ before shown.
    let p = err_from_is_err_and c.from_residual-in_err-entity-in-2-Span.result c.from_residual-in_err-entity-in-2-Span.ensures.1 in
    let s = span_at _ _ _ _ _ c.in-2-Span.is-1 c.requires in
    rw (p.1, p.2) (in_span ShowsFeed (Err c.in_err-entity-in-2-Span.field-0.0) (read 3) feed_message before c.args.bytes.now c.args.field 2 _ _ c.in-2-Span.is-0 c.in-2-Span.is-1
    (many_err ShowsEntity ShowsFeed (read 3) feed_entity before c.args.field.next 2 _ _ c.args.bytes.now c.in_err-entity-in-2-Span.field-0.0 s.0 s.1 s.2 c.in_err-entity-in-2-Span.ensures))

pub returns-in_ok-push-in-2-Span : goal.returns-in_ok-push-in-2-Span
returns-in_ok-push-in-2-Span c = λ before shown.
    let s = span_at _ _ _ _ _ c.in-2-Span.is-1 c.requires in
    in_span ShowsFeed (Ok (record c.args.feed { entities = c.push.new.self })) (read 3) feed_message before c.args.bytes.now c.args.field 2 _ _ c.in-2-Span.is-0 c.in-2-Span.is-1
    (many_ok ShowsEntity ShowsFeed (read 3) feed_entity before c.args.field.next 2 _ _ c.args.bytes.now c.in_ok-entity-in-2-Span.entity (Ok (record c.args.feed { entities = c.push.new.self })) s.0 s.1 s.2 c.in_ok-entity-in-2-Span.ensures
    (λ tree shows. record {
      head = shown.head;
      entities = one_more entity_of c.push.new.self.items c.args.feed.entities.items c.in_ok-entity-in-2-Span.entity (messages 2 before) tree c.in_ok-push-in-2-Span.ensures.items shown.entities shows;
    }))
