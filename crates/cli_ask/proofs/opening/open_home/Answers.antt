use Rattle.std.proofs.lemmas.Result.{IfOk-weaker}
use Rattle.cli_ask.proofs.OpeningLemmas.{is_opened}
use Rattle.cli_ask.proofs.opening.open_home.Goals as goal

pub returns-in-Ok-clause-opened : goal.returns-in-Ok-clause-opened
returns-in-Ok-clause-opened g c =
    IfOk-weaker c.at_home.result _ _
    (λ opened at. is_opened c.args.made c.args.publishing c.args.file.now c.args.link opened.line.items opened.base opened.home c.in-Ok.prepared.publisher c.in-Ok.prepared.base
    c.in-Ok.prepared.line.items c.in-Ok.ensures.prepared c.at_home.ensures.valid at)
    c.at_home.ensures.home
