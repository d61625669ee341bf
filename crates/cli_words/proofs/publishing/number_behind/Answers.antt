use Rattle.std.proofs.Common.{◌∙◌, ap, sym}
use Rattle.std.proofs.lemmas.List.{append_cancel_left}
use Rattle.cli_words.specs.Options.{bounded_said}
use Rattle.cli_words.proofs.publishing.number_behind.Goals as goal

pub returns-in-None : goal.returns-in-None
returns-in-None c = λ number says.
    let digits = append_cancel_left c.args.front.now c.in-Some.digits.now says.digits (sym c.in-Some.ensures ∙ says.written) in
    absurd (cc (c.in-None.ensures ∙ ap (bounded_said c.args.low c.args.high) digits ∙ says.said))
