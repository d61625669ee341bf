use Rattle.timetable.proofs.LawLemmas.{loads_recorded, not_broken, not_too_large, one_of_tables, one_timetable}
use Rattle.timetable.proofs.NeverWrongLemmas.{never_wrong}
use Rattle.timetable.proofs.laws.one_timetable.Goals as goal

pub returns-clause-of_tables : goal.returns-clause-of_tables
returns-clause-of_tables c = one_of_tables c.one_list_of_days.ensures c.one_list_of_runs.ensures c.one_list_of_changes.ensures

pub returns-clause-one : goal.returns-clause-one
returns-clause-one c =
    one_timetable c.one_list_of_days.ensures c.one_list_of_runs.ensures c.one_list_of_changes.ensures c.one_zone_a_word.ensures c.one_feed.ensures.tables

pub returns-clause-loads_recorded : goal.returns-clause-loads_recorded
returns-clause-loads_recorded c = loads_recorded

pub returns-clause-not_broken : goal.returns-clause-not_broken
returns-clause-not_broken c = not_broken c.one_feed.ensures.never_both never_wrong

pub returns-clause-not_too_large : goal.returns-clause-not_too_large
returns-clause-not_too_large c =
    not_too_large c.one_feed.ensures.never_both never_wrong c.one_zone_a_word.ensures c.one_feed.ensures.tables c.one_list_of_days.ensures c.one_list_of_runs.ensures
