-- The lines come one after the other.
use Rattle.std.proofs.Common.{◌∙◌, ◌++◌, ℕ, List, ap}
use Rattle.cli_replay.specs.Summary.{arrivals_line_of, arrivals_of, exchanges_line_of, exchanges_of}
use Rattle.cli_replay.proofs.summary.push_sums.Goals as goal

pub returns : goal.returns
returns c =
    let arrivals = arrivals_line_of (arrivals_of c.args.leaves.now c.args.ends.now) in
    let exchanges = exchanges_line_of (exchanges_of c.args.ends.now) in
    c.in_ok-push_exchanges.ensures ∙ ap (λ (l : List ℕ). l ++ exchanges) (c.in_ok-push_arrivals.ensures ∙ ap (λ (l : List ℕ). l ++ arrivals) c.in_ok-push_found.ensures)
