use Rattle.service_days.proofs.UtcLemmas.{midnight, shown}
use Rattle.service_days.proofs.laws.days_in_utc.Goals as goal

pub returns-clause-midnight : goal.returns-clause-midnight
returns-clause-midnight c = midnight

pub returns-clause-shown : goal.returns-clause-shown
returns-clause-shown c = shown
