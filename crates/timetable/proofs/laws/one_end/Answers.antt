use Rattle.timetable.proofs.OneEndLemmas.{broken_ends, fine_ends, much_ends, no_zone_ends, one_end, rows_end}
use Rattle.timetable.proofs.NeverWrongLemmas.{never_wrong}
use Rattle.timetable.proofs.laws.one_end.Goals as goal

pub returns-clause-one : goal.returns-clause-one
returns-clause-one c =
    one_end c.one_feed.ensures.never_both c.one_feed.ensures.first never_wrong c.one_zone_a_word.ensures c.one_feed.ensures.tables c.one_list_of_days.ensures c.one_list_of_runs.ensures
    c.one_timetable.ensures.one c.one_timetable.ensures.loads_recorded c.one_timetable.ensures.not_broken c.one_timetable.ensures.not_too_large

pub returns-clause-broken : goal.returns-clause-broken
returns-clause-broken c = broken_ends c.one_feed.ensures.never_both c.one_feed.ensures.first never_wrong

pub returns-clause-no_zone : goal.returns-clause-no_zone
returns-clause-no_zone c = no_zone_ends c.one_feed.ensures.never_both c.one_feed.ensures.first never_wrong

pub returns-clause-too_many_rows : goal.returns-clause-too_many_rows
returns-clause-too_many_rows c = rows_end c.one_feed.ensures.never_both c.one_feed.ensures.first never_wrong

pub returns-clause-too_much : goal.returns-clause-too_much
returns-clause-too_much c =
    much_ends c.one_feed.ensures.never_both c.one_feed.ensures.first never_wrong c.one_zone_a_word.ensures c.one_feed.ensures.tables c.one_list_of_days.ensures c.one_list_of_runs.ensures

pub returns-clause-made : goal.returns-clause-made
returns-clause-made c =
    fine_ends c.one_feed.ensures.never_both c.one_feed.ensures.first never_wrong c.one_zone_a_word.ensures c.one_feed.ensures.tables c.one_list_of_days.ensures c.one_list_of_runs.ensures
