use Rattle.std.proofs.Common.{inr, subst, sym}
use Rattle.cli_replay.specs.Inputs.Script.{IsReplayRefused}
use Rattle.lc_cli.specs.Scope.{scope_of}
use Rattle.lc_cli.proofs.DrillLemmas.{replay_block_of}
use Rattle.lc_cli.proofs.replay.replay_block.Goals as goal

pub returns-in-Ok-played-clause-block : goal.returns-in-Ok-played-clause-block
returns-in-Ok-played-clause-block g c =
    replay_block_of c.args.replay (g.F.Folder.seen c.args.folder.now) (g.F.Folder.seen c.read_course.new.folder) (g.L.Link.seen c.args.link) (g.L.Link.seen c.play_course-played.result.1)
    c.in-Ok.course c.in-Ok-played.replayed.text c.in-Ok-played.replayed.ends c.course_block.result c.in-Ok.ensures.course c.course_block.ensures.text c.course_block.ensures.ends
    (rw c.in-Ok-played.is at c.play_course-played.ensures.replayed)

pub returns-in-Err-played-clause-refused : goal.returns-in-Err-played-clause-refused
returns-in-Err-played-clause-refused g c =
    subst (IsReplayRefused (scope_of c.args.replay.window) c.args.replay.script (g.F.Folder.seen c.args.folder.now) (g.F.Folder.seen c.read_course.new.folder)) (sym c.from.ensures)
    (inr (inr (inr (record { made = c.in-Ok.course.made; all = c.in-Ok.course.events.items; read = c.in-Ok.ensures.course.read }))))
