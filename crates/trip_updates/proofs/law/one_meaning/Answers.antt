use Rattle.trip_updates.proofs.TreesLemmas.{has_meaning, same_meaning, never_both}
use Rattle.trip_updates.proofs.law.one_meaning.Goals as goal

pub returns-clause-one : goal.returns-clause-one
returns-clause-one c = has_meaning

pub returns-clause-same : goal.returns-clause-same
returns-clause-same c = same_meaning

pub returns-clause-not_both : goal.returns-clause-not_both
returns-clause-not_both c = never_both
