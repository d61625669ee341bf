use Rattle.std.proofs.Common.{subst}
use Rattle.cli_words.specs.declared.command.Command.{Command}
use Rattle.lc_world.proofs.GoneOnLemmas.{goes_on_itself}
use Rattle.lc_cli.specs.Command.{LeavesLink}
use Rattle.lc_cli.proofs.CommandLemmas.{has_gone_on, leaves_alone, said_refusals, said_works}
use Rattle.lc_cli.proofs.command.outcome.Goals as goal

pub returns-in-Ok-Some-clause-work : goal.returns-in-Ok-Some-clause-work
returns-in-Ok-Some-clause-work g c =
    let says = rw c.in-Ok-Some.field-0-is at c.in-Ok-Some.ensures in
    said_works _ _ _ _ _ c.in-Ok-Some.command c.result_of.result.0 says c.result_of.ensures.work

pub returns-in-Ok-Some-clause-refused : goal.returns-in-Ok-Some-clause-refused
returns-in-Ok-Some-clause-refused g c =
    let says = rw c.in-Ok-Some.field-0-is at c.in-Ok-Some.ensures in
    said_refusals _ _ _ c.in-Ok-Some.command c.result_of.result.0 says c.result_of.ensures.refused

pub returns-in-Ok-Some-clause-link : goal.returns-in-Ok-Some-clause-link
returns-in-Ok-Some-clause-link g c = λ command says.
    subst (λ (command : Command). LeavesLink command (g.L.Link.seen c.args.link) (g.L.Link.seen c.result_of.result.1))
    (c.one_command.ensures _ c.in-Ok-Some.command command (rw c.in-Ok-Some.field-0-is at c.in-Ok-Some.ensures) says) c.result_of.ensures.link

pub returns-in-Ok-Some-clause-gone_on : goal.returns-in-Ok-Some-clause-gone_on
returns-in-Ok-Some-clause-gone_on g c = has_gone_on c.in-Ok-Some.command _ _ c.result_of.ensures.link

pub returns-in-Ok-None-clause-link : goal.returns-in-Ok-None-clause-link
returns-in-Ok-None-clause-link g c = λ command says. leaves_alone command (g.L.Link.seen c.args.link)

pub returns-in-Ok-None-clause-gone_on : goal.returns-in-Ok-None-clause-gone_on
returns-in-Ok-None-clause-gone_on g c = goes_on_itself (g.L.Link.seen c.args.link)

pub returns-in-Err-clause-link : goal.returns-in-Err-clause-link
returns-in-Err-clause-link g c = λ command says. leaves_alone command (g.L.Link.seen c.args.link)

pub returns-in-Err-clause-gone_on : goal.returns-in-Err-clause-gone_on
returns-in-Err-clause-gone_on g c = goes_on_itself (g.L.Link.seen c.args.link)
