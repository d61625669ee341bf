use Rattle.std.proofs.Common.{refl}
use Rattle.std.proofs.lemmas.Result.{IfErr-weaker, IfOk-weaker}
use Rattle.cli_words.specs.declared.command.Command.TheVariants as commands
use Rattle.lc_cli.proofs.CommandLemmas.{leaves_alone, refused_printed, results_printed}
use Rattle.lc_cli.proofs.command.result_of.Goals as goal

pub returns-in-Ask-clause-work : goal.returns-in-Ask-clause-work
returns-in-Ask-clause-work g c =
    rw c.in-Ask.is
    (results_printed _ _ _ _ (commands.Ask c.in-Ask.ask) c.question_block-block.result.0 c.printed.result c.question_block-block.ensures.block c.printed.ensures.work c.printed.ensures.refused)

pub returns-in-Ask-clause-refused : goal.returns-in-Ask-clause-refused
returns-in-Ask-clause-refused g c =
    rw c.in-Ask.is
    (refused_printed _ _ (commands.Ask c.in-Ask.ask) c.question_block-block.result.0 c.printed.result c.question_block-block.ensures.refused c.printed.ensures.work c.printed.ensures.refused)

pub returns-in-Replay-clause-work : goal.returns-in-Replay-clause-work
returns-in-Replay-clause-work g c =
    rw c.in-Replay.is
    (results_printed _ _ _ _ (commands.Replay c.in-Replay.replay) c.replay_block-block.result.0 c.printed-in-Replay.result c.replay_block-block.ensures.block c.printed-in-Replay.ensures.work c.printed-in-Replay.ensures.refused)

pub returns-in-Replay-clause-refused : goal.returns-in-Replay-clause-refused
returns-in-Replay-clause-refused g c =
    rw c.in-Replay.is
    (refused_printed _ _ (commands.Replay c.in-Replay.replay) c.replay_block-block.result.0 c.printed-in-Replay.result c.replay_block-block.ensures.refused c.printed-in-Replay.ensures.work c.printed-in-Replay.ensures.refused)

pub returns-in-Plan-clause-work : goal.returns-in-Plan-clause-work
returns-in-Plan-clause-work g c =
    rw c.in-Plan.is
    (results_printed _ _ _ _ (commands.Plan c.in-Plan.plan) c.plan_block-block.result.0 c.printed-in-Plan.result c.plan_block-block.ensures.block c.printed-in-Plan.ensures.work c.printed-in-Plan.ensures.refused)

pub returns-in-Plan-clause-refused : goal.returns-in-Plan-clause-refused
returns-in-Plan-clause-refused g c =
    rw c.in-Plan.is
    (refused_printed _ _ (commands.Plan c.in-Plan.plan) c.plan_block-block.result.0 c.printed-in-Plan.result c.plan_block-block.ensures.refused c.printed-in-Plan.ensures.work c.printed-in-Plan.ensures.refused)

pub returns-in-Drill-clause-work : goal.returns-in-Drill-clause-work
returns-in-Drill-clause-work g c =
    rw c.in-Drill.is
    (results_printed _ _ _ _ (commands.Drill c.in-Drill.drill) c.drill_block-block.result.0 c.printed-in-Drill.result
    (IfOk-weaker c.drill_block-block.result.0 _ _ (λ block is. (refl, is)) c.drill_block-block.ensures.block) c.printed-in-Drill.ensures.work c.printed-in-Drill.ensures.refused)

pub returns-in-Drill-clause-refused : goal.returns-in-Drill-clause-refused
returns-in-Drill-clause-refused g c =
    rw c.in-Drill.is
    (refused_printed _ _ (commands.Drill c.in-Drill.drill) c.drill_block-block.result.0 c.printed-in-Drill.result
    (IfErr-weaker c.drill_block-block.result.0 _ _ (λ refusal is. (refl, is)) c.drill_block-block.ensures.refused) c.printed-in-Drill.ensures.work c.printed-in-Drill.ensures.refused)

pub returns-in-Drill-clause-link : goal.returns-in-Drill-clause-link
returns-in-Drill-clause-link g c = rw c.in-Drill.is c.drill_block-block.ensures.left

pub returns-in-Fewest-clause-work : goal.returns-in-Fewest-clause-work
returns-in-Fewest-clause-work g c =
    rw c.in-Fewest.is
    (results_printed _ _ _ _ (commands.Fewest c.in-Fewest.fewest) c.question_block-block-in-Fewest.result.0 c.printed-in-Fewest.result c.question_block-block-in-Fewest.ensures.block c.printed-in-Fewest.ensures.work c.printed-in-Fewest.ensures.refused)

pub returns-in-Fewest-clause-refused : goal.returns-in-Fewest-clause-refused
returns-in-Fewest-clause-refused g c =
    rw c.in-Fewest.is
    (refused_printed _ _ (commands.Fewest c.in-Fewest.fewest) c.question_block-block-in-Fewest.result.0 c.printed-in-Fewest.result c.question_block-block-in-Fewest.ensures.refused c.printed-in-Fewest.ensures.work c.printed-in-Fewest.ensures.refused)

pub returns-in-Fewest-clause-link : goal.returns-in-Fewest-clause-link
returns-in-Fewest-clause-link g c = rw c.in-Fewest.is c.question_block-block-in-Fewest.ensures.left

pub returns-in-Arrive-clause-work : goal.returns-in-Arrive-clause-work
returns-in-Arrive-clause-work g c =
    rw c.in-Arrive.is
    (results_printed _ _ _ _ (commands.Arrive c.in-Arrive.arrive) c.question_block-block-in-Arrive.result.0 c.printed-in-Arrive.result c.question_block-block-in-Arrive.ensures.block c.printed-in-Arrive.ensures.work c.printed-in-Arrive.ensures.refused)

pub returns-in-Arrive-clause-refused : goal.returns-in-Arrive-clause-refused
returns-in-Arrive-clause-refused g c =
    rw c.in-Arrive.is
    (refused_printed _ _ (commands.Arrive c.in-Arrive.arrive) c.question_block-block-in-Arrive.result.0 c.printed-in-Arrive.result c.question_block-block-in-Arrive.ensures.refused c.printed-in-Arrive.ensures.work c.printed-in-Arrive.ensures.refused)

pub returns-in-Arrive-clause-link : goal.returns-in-Arrive-clause-link
returns-in-Arrive-clause-link g c = rw c.in-Arrive.is c.question_block-block-in-Arrive.ensures.left

pub returns-in-Relay-clause-work : goal.returns-in-Relay-clause-work
returns-in-Relay-clause-work g c =
    rw c.in-Relay.is
    (results_printed _ _ _ _ (commands.Relay c.in-Relay.relay) c.relay_block-block.result.0 c.printed-in-Relay.result c.relay_block-block.ensures.block c.printed-in-Relay.ensures.work c.printed-in-Relay.ensures.refused)

pub returns-in-Relay-clause-refused : goal.returns-in-Relay-clause-refused
returns-in-Relay-clause-refused g c =
    rw c.in-Relay.is
    (refused_printed _ _ (commands.Relay c.in-Relay.relay) c.relay_block-block.result.0 c.printed-in-Relay.result c.relay_block-block.ensures.refused c.printed-in-Relay.ensures.work c.printed-in-Relay.ensures.refused)

pub returns-in-Relay-clause-link : goal.returns-in-Relay-clause-link
returns-in-Relay-clause-link g c = rw c.in-Relay.is c.relay_block-block.ensures.left

pub returns-in-Ask-clause-link : goal.returns-in-Ask-clause-link
returns-in-Ask-clause-link g c = rw c.in-Ask.is c.question_block-block.ensures.left

pub returns-in-Replay-clause-link : goal.returns-in-Replay-clause-link
returns-in-Replay-clause-link g c = rw c.in-Replay.is c.replay_block-block.ensures.left

pub returns-in-Plan-clause-link : goal.returns-in-Plan-clause-link
returns-in-Plan-clause-link g c = rw c.in-Plan.is c.plan_block-block.ensures.left

pub returns-in-Ok-clause-link : goal.returns-in-Ok-clause-link
returns-in-Ok-clause-link g c = leaves_alone c.args.command (g.L.Link.seen c.args.link)

pub returns-in-Err-clause-link : goal.returns-in-Err-clause-link
returns-in-Err-clause-link g c = leaves_alone c.args.command (g.L.Link.seen c.args.link)

pub returns-in-Ok-server-clause-link : goal.returns-in-Ok-server-clause-link
returns-in-Ok-server-clause-link g c = leaves_alone c.args.command (g.L.Link.seen c.args.link)

pub returns-in-Err-server-clause-link : goal.returns-in-Err-server-clause-link
returns-in-Err-server-clause-link g c = leaves_alone c.args.command (g.L.Link.seen c.args.link)

pub question_block-block-requires : goal.question_block-block-requires
question_block-block-requires g c = (c.in-Ask.ask.some_pages, c.in-Ask.ask.most_pages)
