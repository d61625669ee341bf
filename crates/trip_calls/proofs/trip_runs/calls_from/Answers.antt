use Rattle.std.proofs.Common.{◌≡◌, ◌∙◌, ap, arith, length, subst, sym}
use Rattle.std.proofs.lemmas.List.{take_all}
use Rattle.std.proofs.lemmas.List.FromFn.{length-map-range_with_len}
use Rattle.lc_model.specs.Call.{InSequence}
use Rattle.trip_calls.specs.Runs.{calls_from}
use Rattle.trip_calls.specs.Stays.{stay_at}
use Rattle.trip_calls.proofs.CallLemmas.{in_sequence, length-calls_from, one_call}
use Rattle.trip_calls.proofs.trip_runs.calls_from.Goals as goal

pub bounds-stays-place : goal.bounds-stays-place
bounds-stays-place c =
    let size : length c.args.stays.now ≡ length c.args.rows.now = ap length c.requires.stays ∙ length-map-range_with_len (stay_at c.args.rows.now) 0 (length c.args.rows.now) in
    omega (arith, size)

pub shared-requires : goal.shared-requires
shared-requires c =
    let all = calls_from c.args.origin c.args.first c.args.rows.now in
    let whole : c.rows.calls.items ≡ all = c.rows.invariant ∙ take_all c.rows.place all (omega (arith, length-calls_from c.args.origin c.args.first c.args.rows.now)) in
    subst InSequence (sym whole) (in_sequence c.args.origin c.args.first c.args.rows.now c.requires.in_order)

pub returns : goal.returns
returns c =
    let all = calls_from c.args.origin c.args.first c.args.rows.now in
    c.in_ok-shared.ensures ∙ c.rows.invariant ∙ take_all c.rows.place all (omega (arith, length-calls_from c.args.origin c.args.first c.args.rows.now))

pub rows-preserved : goal.rows-preserved
rows-preserved c =
    let row = c.index-rows-place in
    one_call c.args.origin c.args.first c.args.rows.now c.args.stays.now c.rows.place row.result c.rows.calls.items c.push.new.self.items c.in_ok-call_from.field-0 (record { arr = 0; dep = 0 }) c.rows-test.true c.requires.stays row.is c.in_ok-push.ensures.items c.in_ok-call_from.ensures c.rows.invariant
