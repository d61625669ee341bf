use Rattle.journey_text.proofs.OneScriptLemmas.{never_both, only_fault, only_script, some_reading}
use Rattle.journey_text.proofs.script_laws.one_script.Goals as goal

pub returns-clause-script : goal.returns-clause-script
returns-clause-script c = only_script

pub returns-clause-fault : goal.returns-clause-fault
returns-clause-fault c = only_fault

pub returns-clause-never_both : goal.returns-clause-never_both
returns-clause-never_both c = never_both

pub returns-clause-some : goal.returns-clause-some
returns-clause-some c = some_reading
