use Rattle.std.proofs.Common.{List, ℕ, sym, subst}
use Rattle.http_text.specs.RequestText.{CanAsk, request_text_of}
use Rattle.page_client.specs.Request.{Asks}
use Rattle.page_client.proofs.request.ask.Goals as goal

pub returns : goal.returns
returns c =
    let base = c.args.base.now in
    let known = c.args.known in
    let target = c.as_str.result.now in
    let text = c.in_ok-text.text.items in
    let same = c.as_str.ensures.value in
    let R : List ℕ → Type 0 = λ t. CanAsk t (request_text_of base.authority t known) in
    let S : List ℕ → Type 0 = λ t. CanAsk target t in
    let T : List ℕ → Type 0 = λ t. Asks base t known text in
    let can = subst S (sym c.in_ok-text.ensures.text) (subst R (sym same) (c.requires known)) in
    let whole = c.in_ok-text.ensures.whole can in
    let asked : Asks base target known text = record { text_is = c.in_ok-text.ensures.text; request = whole.0; is_whole = whole.1; says = whole.2 } in
    subst T same asked
