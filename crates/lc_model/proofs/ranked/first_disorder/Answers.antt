-- The place says whether there is a disorder.
use Rattle.std.proofs.Common.{rules}
use Rattle.lc_model.proofs.DisordersLemmas.{disorder_tells}
use Rattle.lc_model.proofs.ranked.first_disorder.Goals as goal

pub returns-in-Some-clause-in_order : goal.returns-in-Some-clause-in_order
returns-in-Some-clause-in_order g c = disorder_tells g.T.Ranked.order g.met.T.Ranked.total c.args.list.now c.disorder_after.result (search rules)
