-- The days of the window may be planned.
use Rattle.timetable.proofs.MadeLemmas.{days_plannable}
use Rattle.timetable.proofs.made.runs_of.Goals as goal

pub runs-requires : goal.runs-requires
runs-requires c =
    let scope = c.args.scope.now in
    days_plannable _ _ scope.first scope.days c.in_ok-days.days c.in_ok-days.ensures c.requires
