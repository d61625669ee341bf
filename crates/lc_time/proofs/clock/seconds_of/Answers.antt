use Rattle.lc_time.proofs.SaidLemmas.{clock_pairs}
use Rattle.lc_time.proofs.clock.seconds_of.Goals as goal

pub returns : goal.returns
returns c =
    let pairs = clock_pairs c.args.h0 c.args.h1 c.args.m0 c.args.m1 c.args.s0 c.args.s1 c.requires in
    let hours = c.number.ensures.value pairs.0 in
    let minutes = c.number-2.ensures.value pairs.1 in
    let seconds = c.number-3.ensures.value pairs.2 in
    cc
