use Rattle.std.proofs.Common.{◌≡◌, ◌∙◌, ◌+◌, ap, arith, cond, take}
use Rattle.std.specs.Prelude.{Bool}
use Rattle.cli_ask.specs.declared.end.ClientEnd.{ClientEnd}
use Rattle.cli_replay.specs.Summary.{has_found, found_in}
use Rattle.cli_replay.proofs.SummaryLemmas.{more_counted, number_of, one_at_most}
use Rattle.cli_replay.proofs.summary.count_found.Goals as goal

pub ends-preserved : goal.ends-preserved
ends-preserved c =
    let more : found_in (take (c.ends.end-index + 1) c.args.ends.now) ≡ found_in (take c.ends.end-index c.args.ends.now) + cond (has_found c.end-item.result.outcome) 1 0 =
    more_counted (λ (end : ClientEnd). has_found end.outcome) c.args.ends.now c.ends.end-index c.end-item.result c.ends-test.true c.end-item.is in
    let one = one_at_most (has_found c.end-item.result.outcome) in
    let added : c.from-found.result ≡ cond (has_found c.end-item.result.outcome) 1 0 =
    c.from-found.ensures ∙ number_of c.has_found.result ∙ ap (λ (b : Bool). cond b 1 0) c.has_found.ensures in
    let counted = c.ends.invariant.counted in
    let within = c.ends.invariant.within in
    record { counted = omega (arith, more, added, counted); within = omega (arith, one, added, within) }
