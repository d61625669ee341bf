use Rattle.std.proofs.Common.{arith}
use Rattle.connection_uri.proofs.NameLemmas.{cut_here, some_slash}
use Rattle.connection_uri.proofs.parts.split_at_slash.Goals as goal

pub returns-then-byte-eq47-clause-exact : goal.returns-then-byte-eq47-clause-exact
returns-then-byte-eq47-clause-exact c = λ front rest clean e.
    cut_here c.args.text.now front rest c.loop-at.at clean e c.if-byte-eq47.true c.loop-at.invariant

pub returns-clause-exact : goal.returns-clause-exact
returns-clause-exact c = λ front rest clean e.
    some_slash c.args.text.now front rest e (λ k lt. c.loop-at.invariant k (omega arith))
