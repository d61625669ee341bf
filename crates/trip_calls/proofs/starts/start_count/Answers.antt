use Rattle.std.proofs.Common.{◌≡◌, ◌∙◌, ◌==◌, true, arith, length, sym}
use Rattle.trip_calls.proofs.StartLemmas.{alone_is_span, empty_is, no_rows, one_row, one_there}
use Rattle.trip_calls.proofs.starts.start_count.Goals as goal

pub returns-then-is_empty : goal.returns-then-is_empty
returns-then-is_empty c =
    let empty : (length c.items_of-own.result.now == 0) ≡ true = sym c.is_empty.ensures ∙ c.if-is_empty.true in
    no_rows c.args.spans.now c.args.trip.now (sym c.items_of-own.ensures ∙ empty_is c.items_of-own.result.now empty)

pub count_of-requires : goal.count_of-requires
count_of-requires c =
    alone_is_span c.args.spans.now c.items_of-own.result.now c.args.trip.now c.index-own-0.result c.requires.spans c.items_of-own.ensures (omega arith) c.index-own-0.is

pub returns-then-own-eq1 : goal.returns-then-own-eq1
returns-then-own-eq1 c =
    let one : length c.items_of-own.result.now ≡ 1 = omega arith in
    one_row c.args.spans.now c.args.trip.now c.index-own-0.result c.count_of.result (one_there c.items_of-own.result.now c.index-own-0.result one c.index-own-0.is ∙ c.items_of-own.ensures)
    (alone_is_span c.args.spans.now c.items_of-own.result.now c.args.trip.now c.index-own-0.result c.requires.spans c.items_of-own.ensures (omega arith) c.index-own-0.is)
    c.count_of.ensures
