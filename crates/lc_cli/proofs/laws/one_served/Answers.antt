use Rattle.lc_cli.proofs.OneServingLemmas.{one_serving}
use Rattle.lc_cli.proofs.laws.one_served.Goals as goal

pub returns : goal.returns
returns g c =
    one_serving g.L.Link.seen g.M.Link.seen c.one_command.ensures c.one_timetable.ensures.one c.one_timetable.ensures.loads_recorded c.one_outcome.ensures.one c.one_over_bytes.ensures.bytes
