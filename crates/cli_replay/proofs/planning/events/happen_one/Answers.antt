use Rattle.std.proofs.Common.{refl}
use Rattle.cli_replay.proofs.PlayedLemmas.{one_turn}
use Rattle.lc_world.proofs.GoneOnLemmas.{no_gets}
use Rattle.cli_replay.proofs.planning.events.happen_one.Goals as goal

pub returns-in_ok-turn-in-Turn-clause-plays : goal.returns-in_ok-turn-in-Turn-clause-plays
returns-in_ok-turn-in-Turn-clause-plays g c =
    one_turn g.L.Link.seen c.args.event c.in-Turn.client c.args.convoy.now c.turn.new.self c.args.link.now c.turn.new.link c.in_ok-turn-in-Turn.field-0 _ c.in-Turn.is
    (record { turned = c.in_ok-turn-in-Turn.ensures.turned; idle = c.in_ok-turn-in-Turn.ensures.idle }) refl

pub returns-in_ok-ask-in-Ask-clause-left : goal.returns-in_ok-ask-in-Ask-clause-left
returns-in_ok-ask-in-Ask-clause-left g c = no_gets _

pub returns-in_err-ask-in-Ask-clause-left : goal.returns-in_err-ask-in-Ask-clause-left
returns-in_err-ask-in-Ask-clause-left g c = no_gets _
