use Rattle.std.proofs.Common.{inl}
use Rattle.lc_world.proofs.GoneOnLemmas.{no_passes}
use Rattle.lc_cli.proofs.drill.drill_block.Goals as goal

pub returns-in-Err-clause-refused : goal.returns-in-Err-clause-refused
returns-in-Err-clause-refused g c = inl c.from.ensures

pub returns-in-Err-clause-left : goal.returns-in-Err-clause-left
returns-in-Err-clause-left g c = no_passes (g.L.Link.seen c.args.link)
