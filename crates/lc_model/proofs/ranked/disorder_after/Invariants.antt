-- Up to this place the items are in order: the first disorder is that of what is left.
use Rattle.std.proofs.Common.{◌≡◌, suc, drop}
use Rattle.lc_model.specs.Disorder.{disorder_after}
use Rattle.lc_model.proofs.ranked.disorder_after.Given as goal

abbrev pub invariant-loop-at : goal.invariant-loop-at
invariant-loop-at g l =
    disorder_after g.T.Ranked.order l.first 1 l.rest ≡ disorder_after g.T.Ranked.order l.before (suc l.at) (drop l.at l.rest)
