use Rattle.std.proofs.Common.{not, ap, ◌∙◌, refl}
use Rattle.lc_world.proofs.GoneOnLemmas.{gets_then, no_gets}
use Rattle.convoy.proofs.FinishLemmas.{ends, no_turns, one_more}
use Rattle.convoy.proofs.convoy.Convoy.finish_client.Goals as goal

pub loop-alloc-init : goal.loop-alloc-init
loop-alloc-init g c = record { so_far = no_turns g.L.Link.seen c.args.k c.args.self.now c.args.link.now; left = no_gets _; behind = refl }

pub loop-alloc-preserved : goal.loop-alloc-preserved
loop-alloc-preserved g c = record {
  so_far =
      one_more g.L.Link.seen c.args.k c.args.self.now c.loop-alloc.self c.turn.new.self c.args.link.now c.loop-alloc.link c.turn.new.link c.in_ok-turn.field-0 c.loop-alloc.invariant.so_far
      (record { turned = c.in_ok-turn.ensures.turned; idle = c.in_ok-turn.ensures.idle });
  left = gets_then _ _ _ c.loop-alloc.invariant.left c.turn.ensures.left;
  behind = c.turn.ensures.behind ∙ c.loop-alloc.invariant.behind;
}

pub returns-in_err-turn-clause-left : goal.returns-in_err-turn-clause-left
returns-in_err-turn-clause-left g c = gets_then _ _ _ c.loop-alloc.invariant.left c.turn.ensures.left

pub returns-clause-ends : goal.returns-clause-ends
returns-clause-ends g c =
    ends g.L.Link.seen c.args.k c.args.self.now c.loop-alloc.self c.args.link.now c.loop-alloc.link c.outcome.result c.loop-alloc.invariant.so_far c.requires.from_one c.requires.clients c.outcome.ensures (c.is_none.ensures ∙ ap not c.loop-alloc-test.false)
