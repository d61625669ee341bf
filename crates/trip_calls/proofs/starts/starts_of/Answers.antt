use Rattle.std.proofs.Common.{◌≡◌, ◌∙◌, ◌<◌, ◌++◌, ◌==◌, true, false, List, Some, ap, length, map, refl, subst, sym}
use Rattle.std.specs.List.{All}
use Rattle.std.proofs.lemmas.List.Elements.{All-filter, All-weaker}
use Rattle.lc_model.specs.Change.{is_same_id}
use Rattle.gtfs_tables.specs.Calendars.Spans.{AreSpans, IsSpan}
use Rattle.gtfs_tables.specs.declared.calendars.frequency.Frequency.{Frequency}
use Rattle.trip_calls.specs.declared.start.Start.{Start}
use Rattle.trip_calls.proofs.StartLemmas.{empty_is, given_in_day, none_pushed, seconds_of, some_there, with_rows, without_rows}
use Rattle.trip_calls.proofs.starts.starts_of.Goals as goal

pub given_starts-requires : goal.given_starts-requires
given_starts-requires c =
    subst AreSpans (sym c.items_of-own.ensures) (All-filter (λ (f : Frequency). is_same_id f.trip c.args.trip.now) IsSpan c.args.spans.now c.requires.spans)

pub push_given-requires : goal.push_given-requires
push_given-requires c =
    let own = subst AreSpans (sym c.items_of-own.ensures) (All-filter (λ (f : Frequency). is_same_id f.trip c.args.trip.now) IsSpan c.args.spans.now c.requires.spans) in
    let in_day = All-weaker IsSpan (λ (f : Frequency). f.to < 360_000) (λ f s. s.to_in_day) c.items_of-own.result.now own in
    subst (All (λ s. s < 360_000)) (sym c.as_slice.ensures.value) (given_in_day c.items_of-own.result.now c.in_ok-given.given.items c.in_ok-given.ensures.all in_day)

pub returns-then-is_empty : goal.returns-then-is_empty
returns-then-is_empty c =
    let empty : (length c.items_of-own.result.now == 0) ≡ true = sym c.is_empty.ensures ∙ c.if-is_empty.true in
    without_rows c.args.spans.now c.args.trip.now c.push.new.self.items (sym c.items_of-own.ensures ∙ empty_is c.items_of-own.result.now empty)
    (none_pushed c.new-starts.result.items c.push.new.self.items _ c.in_ok-push.ensures.items c.new-starts.ensures.items refl)

pub returns : goal.returns
returns c =
    let there : (length c.items_of-own.result.now == 0) ≡ false = sym c.is_empty.ensures ∙ c.if-is_empty.false in
    with_rows c.args.spans.now c.args.trip.now c.items_of-own.result.now c.in_ok-given.given.items c.push_given.new.starts.items c.items_of-own.ensures (some_there c.items_of-own.result.now there) c.in_ok-given.ensures
    (c.in_ok-push_given.ensures ∙ ap (λ (l : List Start). seconds_of l ++ map Some c.as_slice.result.now) c.new-starts.ensures.items ∙ ap (map Some) c.as_slice.ensures.value)
