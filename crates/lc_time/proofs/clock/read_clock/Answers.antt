use Rattle.lc_time.proofs.SaidLemmas.{clock_in_range, clock_is_text}
use Rattle.lc_time.proofs.clock.read_clock.Goals as goal

pub returns-clause-in_range : goal.returns-clause-in_range
returns-clause-in_range c = clock_in_range c.args.text.now c.clock_seconds.result c.clock_seconds.ensures

pub returns-clause-said : goal.returns-clause-said
returns-clause-said c = clock_is_text c.args.text.now c.clock_seconds.result c.clock_seconds.ensures
