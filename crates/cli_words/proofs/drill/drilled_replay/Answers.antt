use Rattle.std.proofs.Common.{◌∙◌, ℕ, List, ap, subst, sym}
use Rattle.cli_words.specs.Line.{texts_of}
use Rattle.cli_words.specs.Replay.{SaysReplay}
use Rattle.cli_words.proofs.DrilledLemmas.{drilled}
use Rattle.cli_words.proofs.drill.drilled_replay.Goals as goal

pub unreachable-requires : goal.unreachable-requires
unreachable-requires c =
    let some = drilled c.args.drill.now.days c.args.drill.now.some_days c.args.drill.now.one_week in
    let none = rw c.in-None.is at c.in_ok-replay.ensures in
    let words = ap texts_of c.as_slice.ensures.value ∙ c.in_ok-words.ensures in
    none some.0 (subst (λ (texts : List (List ℕ)). SaysReplay texts some.0) (sym words) some.1)
