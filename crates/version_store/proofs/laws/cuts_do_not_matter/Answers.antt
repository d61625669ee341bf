use Rattle.version_store.proofs.CutLemmas.{cuts_do_not}
use Rattle.version_store.proofs.laws.cuts_do_not_matter.Goals as goal

pub returns : goal.returns
returns c = cuts_do_not
