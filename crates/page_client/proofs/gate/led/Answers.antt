use Rattle.std.proofs.Common.{Ok, List, ℕ, ◌≡◌, None, ◌∙◌, subst}
use Rattle.url.specs.Parser.{parse_url}
use Rattle.page_client.proofs.GateLemmas.{led_exact}
use Rattle.page_client.proofs.gate.led.Goals as goal

pub returns-in-Ok-clause-exact : goal.returns-in-Ok-clause-exact
returns-in-Ok-clause-exact c =
    let text = c.as_str.ensures.value ∙ c.in_ok-gate.ensures in
    let P : List ℕ → Type 0 = λ t. parse_url None t ≡ Ok c.in-Ok.gate in
    led_exact c.args.base.now c.args.leave c.args.reference.now c.in-Ok.gate c.joined.result (subst P text c.in-Ok.ensures) c.joined.ensures.exact
