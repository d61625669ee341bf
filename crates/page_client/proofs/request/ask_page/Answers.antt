use Rattle.std.proofs.Common.{List, ℕ, ◌<◌, sym, subst}
use Rattle.http_text.specs.Targets.{CanAskFor}
use Rattle.page_client.proofs.request.ask_page.Goals as goal

pub ask-requires : goal.ask-requires
ask-requires c =
    let base = c.args.base.now in
    let R : ℕ → Type 0 = λ m. m < 253_402_128_000 in
    let P : List ℕ → Type 0 = λ target. CanAskFor base target in
    let can = (c.targets_are_good.ensures base c.in_ok-target.ensures.plain).1 in
    subst P (sym c.in_ok-target.ensures.target)
    (can.page c.args.name (subst R c.seconds-version.ensures.value c.seconds-version.ensures.in_range) (subst R c.seconds-departs.ensures.value c.seconds-departs.ensures.in_range))
