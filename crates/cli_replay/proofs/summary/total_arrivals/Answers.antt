use Rattle.std.proofs.Common.{◌≡◌, ◌+◌, ap, arith, drop}
use Rattle.cli_ask.specs.declared.end.ClientEnd.{ClientEnd}
use Rattle.cli_replay.specs.Summary.{arrivals_of, seconds_of}
use Rattle.cli_replay.proofs.SummaryLemmas.{next_arrivals, no_arrivals_left}
use Rattle.cli_replay.proofs.summary.total_arrivals.Goals as goal

pub clients-preserved : goal.clients-preserved
clients-preserved c =
    let within = c.clients-test.true in
    let least = c.min-clients.ensures in
    let next = next_arrivals c.args.leaves.now c.args.ends.now c.clients.index c.index-leaves-index.result c.index-ends-index.result (omega (arith, within, least)) (omega (arith, within, least))
    c.index-leaves-index.is c.index-ends-index.is in
    let so_far : c.clients.total + arrivals_of (drop c.clients.index c.args.leaves.now) (drop c.clients.index c.args.ends.now) ≡ arrivals_of c.args.leaves.now c.args.ends.now = c.clients.invariant in
    let added = c.in_ok-total.ensures in
    let seconds = c.seconds_of.ensures in
    let same = ap (λ (end : ClientEnd). seconds_of c.index-leaves-index.result end.outcome) c.index-ends-index.is in
    omega (arith, next, so_far, added, seconds, same)

pub returns : goal.returns
returns c =
    let past = c.clients-test.false in
    let least = c.min-clients.ensures in
    let none = no_arrivals_left c.args.leaves.now c.args.ends.now c.clients.index (λ in_leaves in_ends. omega (arith, past, least, in_leaves, in_ends)) in
    let so_far : c.clients.total + arrivals_of (drop c.clients.index c.args.leaves.now) (drop c.clients.index c.args.ends.now) ≡ arrivals_of c.args.leaves.now c.args.ends.now = c.clients.invariant in
    omega (arith, none, so_far)
