use Rattle.std.proofs.Common.{◌<◌, arith, length}
use Rattle.journey_text.proofs.ScriptRowsLemmas.{say_more}
use Rattle.journey_text.proofs.script_reading.records_of.Goals as goal

pub rows-preserved : goal.rows-preserved
rows-preserved c =
    let inside : c.rows.place < length c.args.rows.now = omega arith in
    let says = rw c.in-Some.is at c.in_ok-said.ensures in
    say_more c.args.updates c.args.rows.now c.rows.place c.rows.clients _ c.rows.script.items _ c.in-Some.said inside c.rows.invariant says c.clients_behind-clients.ensures c.in_ok-push.ensures.items
