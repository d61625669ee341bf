use Rattle.std.proofs.Common.{List, ℕ, ◌<◌, sym, subst}
use Rattle.http_text.specs.Targets.{CanAskFor}
use Rattle.page_client.proofs.request.ask_gate.Goals as goal

pub ask-requires : goal.ask-requires
ask-requires c =
    let base = c.args.base.now in
    let R : ℕ → Type 0 = λ m. m < 253_402_128_000 in
    let P : List ℕ → Type 0 = λ target. CanAskFor base target in
    let can = (c.targets_are_good.ensures base c.path-path.ensures.plain).1 in
    subst P (sym c.in_ok-target.ensures) (can.gate c.args.leave (subst R c.seconds-leave.ensures.value c.seconds-leave.ensures.in_range))
