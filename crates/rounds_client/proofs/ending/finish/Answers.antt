use Rattle.std.proofs.Common.{refl, ◌∙◌, arith}
use Rattle.lc_world.proofs.GoneOnLemmas.{gets_then, no_gets}
use Rattle.rounds_client.specs.Given.{was_given}
use Rattle.rounds_client.proofs.CourseLemmas.{none_made, one_more, reads_on}
use Rattle.rounds_client.proofs.ending.finish.Goals as goal

pub loop-alloc-init : goal.loop-alloc-init
loop-alloc-init g c = record {
  decided = c.requires.decided;
  small = omega (arith, c.requires.small);
  query = refl;
  so_far = none_made g.L.Link.seen c.args.base.now c.args.client.now (was_given c.args.given.now) c.args.link.now;
  reads = λ r. r;
  left = no_gets _;
  behind = refl;
}

pub loop-alloc-preserved : goal.loop-alloc-preserved
loop-alloc-preserved g c =
    let old = c.loop-alloc.invariant in
    record {
      decided = c.in_ok-ask.ensures.decided;
      small = omega (arith, old.small, c.in_ok-ask.ensures.fewer);
      query = c.in_ok-ask.ensures.down.query ∙ old.query;
      so_far =
          one_more g.L.Link.seen c.args.base.now c.args.client.now (was_given c.args.given.now) c.args.link.now c.loop-alloc.client (was_given c.loop-alloc.given) c.loop-alloc.link
          c.ask.new.client (was_given c.ask.new.given) c.ask.new.link c.loop-alloc.exchanges old.so_far c.in_ok-ask.ensures.gives;
      reads = λ r.
          reads_on c.args.base.now c.loop-alloc.client c.ask.new.client (g.L.Link.seen c.loop-alloc.link) (g.L.Link.seen c.ask.new.link) (was_given c.loop-alloc.given) (was_given c.ask.new.given)
          c.in_ok-ask.ensures.gives (old.reads r);
      left = gets_then _ _ _ old.left c.ask.ensures.left;
      behind = c.ask.ensures.behind ∙ old.behind;
    }

pub returns-in_err-ask-clause-left : goal.returns-in_err-ask-clause-left
returns-in_err-ask-clause-left g c = gets_then _ _ _ c.loop-alloc.invariant.left c.ask.ensures.left
