use Rattle.journey_text.proofs.OneScriptLemmas.{faulty_where_wrong, none_where_read, read_where_said, same_where_read, turns_where_read}
use Rattle.journey_text.proofs.script_reading.read_script.Goals as goal

pub returns-clause-script : goal.returns-clause-script
returns-clause-script c = read_where_said c.args.bytes.now c.args.updates _ c.in_ok-rows.ensures _ c.records_of.ensures.fault

pub returns-clause-only : goal.returns-clause-only
returns-clause-only c = faulty_where_wrong c.args.bytes.now c.args.updates _ c.in_ok-rows.ensures _ c.records_of.ensures.said c.records_of.ensures.fault

pub returns-clause-same : goal.returns-clause-same
returns-clause-same c = same_where_read c.args.bytes.now c.args.updates _ c.in_ok-rows.ensures _ c.records_of.ensures.said

pub returns-clause-turns : goal.returns-clause-turns
returns-clause-turns c = turns_where_read c.args.bytes.now c.args.updates _ c.in_ok-rows.ensures _ c.records_of.ensures.said

pub returns-clause-messages : goal.returns-clause-messages
returns-clause-messages c = none_where_read c.args.bytes.now c.args.updates _ c.in_ok-rows.ensures _ c.records_of.ensures.said
