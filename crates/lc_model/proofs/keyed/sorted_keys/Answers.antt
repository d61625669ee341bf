-- A sort only moves the keys.
use Rattle.lc_model.proofs.SearchLemmas.{ids_moved}
use Rattle.lc_model.proofs.keyed.sorted_keys.Goals as goal

pub returns-clause-same : goal.returns-clause-same
returns-clause-same g c =
    ids_moved g.T.Keyed.key c.in_ok-keys.keys.items c.sort.new.self.items c.args.items.now c.in_ok-keys.ensures c.sort.ensures.permutation
