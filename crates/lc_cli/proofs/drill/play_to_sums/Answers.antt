use Rattle.lc_world.proofs.GoneOnLemmas.{no_passes}
use Rattle.lc_cli.proofs.DrillLemmas.{summed_of}
use Rattle.lc_cli.proofs.drill.play_to_sums.Goals as goal

pub returns-in-Ok-played-clause-block : goal.returns-in-Ok-played-clause-block
returns-in-Ok-played-clause-block g c =
    summed_of c.args.seed c.args.course (g.L.Link.seen c.args.link) (g.L.Link.seen c.play_course-played.result.1) c.in-Ok.opening c.in-Ok-played.replayed c.summed_block.result
    c.in-Ok.ensures.line c.in-Ok.ensures.messages c.in-Ok.ensures.leaves c.summed_block.ensures.text c.summed_block.ensures.ends
    (rw c.in-Ok-played.is at c.play_course-played.ensures.replayed) (rw c.in-Ok-played.is at c.play_course-played.ensures.admitted)

pub returns-in-Err-clause-left : goal.returns-in-Err-clause-left
returns-in-Err-clause-left g c = no_passes (g.L.Link.seen c.args.link)
