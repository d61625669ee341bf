use Rattle.std.proofs.Common.{inl, inr}
use Rattle.lc_cli.proofs.DrillLemmas.{drill_block_of, refused_replay}
use Rattle.lc_cli.proofs.drill.play_drilled.Goals as goal

pub returns-in-Ok-block-clause-block : goal.returns-in-Ok-block-clause-block
returns-in-Ok-block-clause-block g c =
    drill_block_of c.args.drill.now c.args.drilled.replay c.args.drilled.folder c.read_course.new.folder (g.L.Link.seen c.args.link) (g.L.Link.seen c.play_to_sums-block.result.1) c.in-Ok.course
    c.in-Ok-block.block c.requires.folder c.requires.replay c.in-Ok.ensures.course (rw c.in-Ok-block.is at c.play_to_sums-block.ensures.block)

pub returns-in-Ok-clause-refused : goal.returns-in-Ok-clause-refused
returns-in-Ok-clause-refused g c = inl c.from.ensures

pub returns-clause-refused : goal.returns-clause-refused
returns-clause-refused g c =
    inr (refused_replay c.args.drill.now c.args.drilled.replay c.args.drilled.folder c.read_course.new.folder c.in-Err.refusal c.requires.folder c.requires.replay c.in-Err.ensures.refused)
