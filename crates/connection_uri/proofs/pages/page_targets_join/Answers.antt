use Rattle.connection_uri.proofs.RelativeLemmas.{page_targets_join}
use Rattle.connection_uri.proofs.TwoSlashesLemmas.{page_targets_join_nowhere}
use Rattle.connection_uri.proofs.pages.page_targets_join.Goals as goal

pub returns-clause-once : goal.returns-clause-once
returns-clause-once c = page_targets_join

pub returns-clause-twice : goal.returns-clause-twice
returns-clause-twice c = page_targets_join_nowhere
