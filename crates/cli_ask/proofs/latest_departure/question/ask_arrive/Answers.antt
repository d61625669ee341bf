use Rattle.std.proofs.Common.{subst, sym}
use Rattle.std.proofs.lemmas.Result.{IfOk-weaker}
use Rattle.lc_world.specs.GoneOn.{IsLeftByPasses}
use Rattle.lc_world.proofs.GoneOnLemmas.{no_passes}
use Rattle.cli_ask.proofs.LatestDepartureLemmas.HomeLemmas.{is_asked}
use Rattle.cli_ask.proofs.latest_departure.question.ask_arrive.Goals as goal

pub returns-in-Ok-clause-asked : goal.returns-in-Ok-clause-asked
returns-in-Ok-clause-asked g c =
    IfOk-weaker c.ask_home.result.0 _ _
    (λ asked asks. is_asked c.args.made c.args.publishing c.args.file.now c.args.link c.in-Ok.opened.line.items c.in-Ok.opened.base c.in-Ok.opened.home g.L.Link.seen c.args.query
    (g.L.Link.seen c.ask_home.result.1) asked.text.items asked.end c.in-Ok.ensures.opened asks)
    c.ask_home.ensures.asks

pub returns-in-Ok-clause-left : goal.returns-in-Ok-clause-left
returns-in-Ok-clause-left g c =
    subst (λ (l : g.row.L.Denot). IsLeftByPasses (g.L.Link.seen l) (g.L.Link.seen c.ask_home.result.1)) c.in-Ok.ensures.opened.outer_is c.ask_home.ensures.left

pub returns-in-Err-clause-left : goal.returns-in-Err-clause-left
returns-in-Err-clause-left g c =
    subst (λ (l : g.row.L.Denot). IsLeftByPasses (g.L.Link.seen c.args.link) (g.L.Link.seen l)) (sym c.in-Err.ensures.link_back) (no_passes _)
