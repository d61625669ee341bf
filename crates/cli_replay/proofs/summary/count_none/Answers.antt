use Rattle.std.proofs.Common.{◌≡◌, ◌∙◌, ◌+◌, ap, arith, cond, take}
use Rattle.std.specs.Prelude.{Bool}
use Rattle.cli_ask.specs.declared.end.ClientEnd.{ClientEnd}
use Rattle.cli_replay.specs.Summary.{has_none, none_in}
use Rattle.cli_replay.proofs.SummaryLemmas.{more_counted, number_of, one_at_most}
use Rattle.cli_replay.proofs.summary.count_none.Goals as goal

pub ends-preserved : goal.ends-preserved
ends-preserved c =
    let more : none_in (take (c.ends.end-index + 1) c.args.ends.now) ≡ none_in (take c.ends.end-index c.args.ends.now) + cond (has_none c.end-item.result.outcome) 1 0 =
    more_counted (λ (end : ClientEnd). has_none end.outcome) c.args.ends.now c.ends.end-index c.end-item.result c.ends-test.true c.end-item.is in
    let one = one_at_most (has_none c.end-item.result.outcome) in
    let added : c.from-none.result ≡ cond (has_none c.end-item.result.outcome) 1 0 =
    c.from-none.ensures ∙ number_of c.has_none.result ∙ ap (λ (b : Bool). cond b 1 0) c.has_none.ensures in
    let counted = c.ends.invariant.counted in
    let within = c.ends.invariant.within in
    record { counted = omega (arith, more, added, counted); within = omega (arith, one, added, within) }
