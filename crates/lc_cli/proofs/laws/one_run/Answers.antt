use Rattle.lc_cli.proofs.OneRunLemmas.{one_run}
use Rattle.lc_cli.proofs.laws.one_run.Goals as goal

pub returns : goal.returns
returns g c =
    one_run g.L.Link.seen g.M.Link.seen c.one_timetable.ensures.one c.one_timetable.ensures.loads_recorded c.one_output.ensures c.one_fewest_output.ensures c.one_latest_output.ensures c.one_command.ensures c.one_script.ensures.script
    c.one_course.ensures c.one_outcome.ensures.one
