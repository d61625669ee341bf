use Rattle.std.proofs.Common.{◌∙◌, ◌+◌, ◌++◌, ℕ, List, ap, append_assoc, arith, sym, take}
use Rattle.cli_ask.specs.Block.{client_text_of}
use Rattle.cli_replay.specs.ReplayLaws.Replayed.{clients_text_of}
use Rattle.cli_replay.proofs.TextLemmas.{text_more}
use Rattle.cli_replay.proofs.text.text_of.Goals as goal

pub ends-preserved : goal.ends-preserved
ends-preserved c =
    let one = client_text_of (c.ends.index + 1) c.index-ends-index.result in
    c.in_ok-push_client.ensures ∙ ap (λ (l : List ℕ). l ++ one) c.ends.invariant ∙ append_assoc c.args.lines.items (clients_text_of 1 (take c.ends.index c.args.ends.now)) one
    ∙ ap (λ (l : List ℕ). c.args.lines.items ++ l) (sym (text_more c.args.ends.now c.ends.index c.index-ends-index.result (omega arith) c.index-ends-index.is))
