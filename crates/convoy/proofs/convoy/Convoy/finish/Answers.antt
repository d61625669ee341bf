use Rattle.std.proofs.Common.{◌∙◌, refl}
use Rattle.lc_world.proofs.GoneOnLemmas.{gets_then, no_gets}
use Rattle.convoy.proofs.RoundLemmas.{next_round, no_rounds}
use Rattle.convoy.proofs.convoy.Convoy.finish.Goals as goal

pub loop-index-preserved : goal.loop-index-preserved
loop-index-preserved g c = record {
  rounds =
      next_round g.L.Link.seen c.loop-index.index c.args.self.now c.loop-index.self c.finish_client.new.self c.args.link.now c.loop-index.link c.finish_client.new.link
      c.loop-index.invariant.rounds c.in_ok-finish_client.ensures.ends c.in_ok-finish_client.ensures.others c.in_ok-finish_client.ensures.keeps;
  left = gets_then _ _ _ c.loop-index.invariant.left c.finish_client.ensures.left;
  behind = c.finish_client.ensures.behind ∙ c.loop-index.invariant.behind;
}

pub returns-in_err-finish_client-clause-left : goal.returns-in_err-finish_client-clause-left
returns-in_err-finish_client-clause-left g c = gets_then _ _ _ c.loop-index.invariant.left c.finish_client.ensures.left

pub returns-then-is_spent-clause-left : goal.returns-then-is_spent-clause-left
returns-then-is_spent-clause-left g c = no_gets _

pub loop-index-init : goal.loop-index-init
loop-index-init g c = record { rounds = no_rounds g.L.Link.seen c.args.self.now c.args.link.now; left = no_gets _; behind = refl }
