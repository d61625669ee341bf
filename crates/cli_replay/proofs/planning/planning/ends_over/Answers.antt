use Rattle.std.proofs.Common.{[], subst}
use Rattle.std.proofs.lemmas.Result.{IfOk-weaker}
use Rattle.convoy.specs.State.{ConvoyState}
use Rattle.lc_world.proofs.GoneOnLemmas.{gets_then, no_gets}
use Rattle.cli_replay.specs.ReplayLaws.Played.{Plays}
use Rattle.cli_replay.proofs.planning.planning.ends_over.Goals as goal

pub returns-in_err-convoy-clause-left : goal.returns-in_err-convoy-clause-left
returns-in_err-convoy-clause-left g c = no_gets _

pub returns-in_err-finish-clause-left : goal.returns-in_err-finish-clause-left
returns-in_err-finish-clause-left g c = gets_then _ _ _ c.happen.ensures.left c.finish.ensures.left

pub returns-clause-left : goal.returns-clause-left
returns-clause-left g c = gets_then _ _ _ c.happen.ensures.left c.finish.ensures.left

pub returns-clause-happened : goal.returns-clause-happened
returns-clause-happened g c =
    let plays = subst (λ (s : ConvoyState). Plays g.L.Link.seen c.args.events.items s c.happen.new.convoy c.args.link.now c.happen.new.link []) c.in_ok-convoy.ensures c.in_ok-happen.ensures.plays in
    IfOk-weaker c.ends_of.result _ _ (λ ends have_ended. record {
      turned = c.happen.new.convoy;
      ended = c.finish.new.self;
      between = c.happen.new.link;
      plays = plays;
      rounds = c.in_ok-finish.ensures.rounds;
      have_ended = have_ended;
    }) c.ends_of.ensures
