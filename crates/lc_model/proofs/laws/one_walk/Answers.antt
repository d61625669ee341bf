use Rattle.lc_model.proofs.WalksLemmas as law
use Rattle.lc_model.proofs.laws.one_walk.Goals as goal

pub returns : goal.returns
returns c = record { before = law.one_walk_before; after = law.one_walk_after }
