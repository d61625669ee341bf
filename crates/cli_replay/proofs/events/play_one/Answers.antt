use Rattle.lc_world.proofs.GoneOnLemmas.{no_passes}
use Rattle.cli_replay.specs.Home.{home_seen}
use Rattle.cli_replay.proofs.HearingLemmas.{turn_admits_none}
use Rattle.cli_replay.proofs.PlayedLemmas.{one_message, one_turn}
use Rattle.cli_replay.proofs.events.play_one.Goals as goal

pub returns-in_ok-heard-in-Message-clause-plays : goal.returns-in_ok-heard-in-Message-clause-plays
returns-in_ok-heard-in-Message-clause-plays g c =
    one_message (home_seen g.L.Link.seen) c.args.event c.in-Message.message c.args.convoy.now c.args.home.now c.hear.new.home c.in_ok-heard-in-Message.heard.lines.items c.in-Message.is
    c.in_ok-heard-in-Message.ensures.given

pub returns-in_ok-turn-in-Turn-clause-plays : goal.returns-in_ok-turn-in-Turn-clause-plays
returns-in_ok-turn-in-Turn-clause-plays g c =
    one_turn (home_seen g.L.Link.seen) c.args.event c.in-Turn.client c.args.convoy.now c.turn.new.self c.args.home.now c.turn.new.link c.in_ok-turn-in-Turn.field-0 c.new-in-Turn.result.items
    c.in-Turn.is (record { turned = c.in_ok-turn-in-Turn.ensures.turned; idle = c.in_ok-turn-in-Turn.ensures.idle }) c.new-in-Turn.ensures.items

pub returns-in_ok-turn-in-Turn-clause-admitted : goal.returns-in_ok-turn-in-Turn-clause-admitted
returns-in_ok-turn-in-Turn-clause-admitted g c =
    turn_admits_none g.L.Link.seen c.in-Turn.client c.in_ok-turn-in-Turn.field-0 c.args.convoy.now c.turn.new.self c.args.home.now c.turn.new.link
    (record { turned = c.in_ok-turn-in-Turn.ensures.turned; idle = c.in_ok-turn-in-Turn.ensures.idle })

pub returns-in_ok-turn-in-Turn-clause-outer : goal.returns-in_ok-turn-in-Turn-clause-outer
returns-in_ok-turn-in-Turn-clause-outer g c = record { gone_on = c.turn.ensures.left.gone_on; side = c.turn.ensures.behind }

pub returns-in_err-turn-in-Turn-clause-outer : goal.returns-in_err-turn-in-Turn-clause-outer
returns-in_err-turn-in-Turn-clause-outer g c = record { gone_on = c.turn.ensures.left.gone_on; side = c.turn.ensures.behind }

pub returns-in_ok-ask-in-Ask-clause-outer : goal.returns-in_ok-ask-in-Ask-clause-outer
returns-in_ok-ask-in-Ask-clause-outer g c = no_passes _

pub returns-in_err-ask-in-Ask-clause-outer : goal.returns-in_err-ask-in-Ask-clause-outer
returns-in_err-ask-in-Ask-clause-outer g c = no_passes _
