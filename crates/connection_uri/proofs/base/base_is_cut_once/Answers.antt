use Rattle.connection_uri.proofs.BaseLemmas.{cut_whole, cut_elsewhere}
use Rattle.connection_uri.proofs.base.base_is_cut_once.Goals as goal

pub returns-clause-whole : goal.returns-clause-whole
returns-clause-whole c = cut_whole

pub returns-clause-elsewhere : goal.returns-clause-elsewhere
returns-clause-elsewhere c = cut_elsewhere
