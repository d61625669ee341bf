use Rattle.journey_text.proofs.ScriptRowsLemmas.{SayUntil}
use Rattle.journey_text.proofs.script_reading.records_of.Given as goal

abbrev pub invariant-rows : goal.invariant-rows
invariant-rows l = SayUntil l.updates l.rows l.place l.clients l.script.items
