use Rattle.std.proofs.Common.{◌+◌, List, subst, take}
use Rattle.std.proofs.lemmas.List.{take_all}
use Rattle.gtfs_tables.specs.declared.calendars.frequency.Frequency.{Frequency}
use Rattle.trip_calls.specs.Starts.{AreAllGiven}
use Rattle.trip_calls.proofs.StartLemmas.{given_more, given_none, given_same}
use Rattle.trip_calls.proofs.starts.all_starts.Goals as goal

pub spans-init : goal.spans-init
spans-init c = given_none c.new-starts.result.items c.args.spans.now c.new-starts.ensures.items

pub spans-preserved : goal.spans-preserved
spans-preserved c =
    given_same (take (c.spans.span-index + 1) c.args.spans.now) c.push_starts.new.starts.items c.leave_few.new.starts.items c.leave_few.ensures
    (given_more c.args.spans.now c.spans.span-index c.span-item.result c.spans.starts.items c.push_starts.new.starts.items c.spans-test.true c.span-item.is c.spans.invariant c.in_ok-push_starts.ensures)

pub returns : goal.returns
returns c = subst (λ (l : List Frequency). AreAllGiven l c.spans.starts.items) (take_all c.spans.span-index c.args.spans.now c.spans-test.false) c.spans.invariant
