use Rattle.lc_cli.proofs.OneStatusLemmas.{done_is_clear, done_is_printed, one_status}
use Rattle.lc_cli.proofs.laws.one_status.Goals as goal

pub returns-clause-one : goal.returns-clause-one
returns-clause-one g c =
    one_status g.L.Link.seen g.M.Link.seen c.one_command.ensures c.one_timetable.ensures.one c.one_end.ensures.one c.one_timetable.ensures.loads_recorded c.one_outcome.ensures.one
    c.one_output.ensures c.one_fewest_output.ensures c.one_latest_output.ensures c.one_script.ensures.script c.one_script.ensures.fault c.one_script.ensures.never_both c.one_course.ensures

pub returns-clause-printed : goal.returns-clause-printed
returns-clause-printed g c = done_is_printed g.L.Link.seen

pub returns-clause-clear : goal.returns-clause-clear
returns-clause-clear g c = done_is_clear g.L.Link.seen c.one_timetable.ensures.loads_recorded
