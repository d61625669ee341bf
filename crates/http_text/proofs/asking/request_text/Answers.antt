use Rattle.std.proofs.Common.{ap, ◌∙◌}
use Rattle.connection_uri.proofs.BaseLemmas.{written}
use Rattle.http_text.specs.RequestText.{request_text_of}
use Rattle.http_text.proofs.AskLemmas.{asks}
use Rattle.http_text.proofs.ByteLemmas.{authority_bytes}
use Rattle.http_text.proofs.asking.request_text.Goals as goal

pub returns-clause-whole : goal.returns-clause-whole
returns-clause-whole c = λ can.
    asks c.args.base.now.authority c.args.target.now c.in_ok-text.text.items c.args.known
    (c.in_ok-text.ensures.text ∙ ap (λ a. request_text_of a c.args.target.now c.args.known) c.authority.ensures.value)
    (authority_bytes c.args.base.now.authority (written c.args.base.now c.authority.ensures.plain).authority) can c.utf8.target c.in_ok-text.ensures.in_range
