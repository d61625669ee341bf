use Rattle.std.proofs.Common.{arith}
use Rattle.trip_calls.proofs.FillLemmas.{all_stays, none_yet}
use Rattle.trip_calls.proofs.stays.stays.Goals as goal

pub rows-init : goal.rows-init
rows-init c = none_yet c.args.rows.now c.in_ok-stays.stays.items c.in_ok-stays.ensures.items

pub returns : goal.returns
returns c = all_stays c.args.rows.now c.rows.place c.rows.stays.items (omega arith) (omega arith) c.requires c.rows.invariant
