-- Each near value is refused.
use Rattle.lc_io.proofs.NearLemmas.{none_cut_off, none_held_back, none_skipped, none_unread}
use Rattle.lc_io.proofs.laws.near_values.Goals as goal

pub returns-clause-unread : goal.returns-clause-unread
returns-clause-unread c = none_unread

pub returns-clause-skipped : goal.returns-clause-skipped
returns-clause-skipped c = none_skipped

pub returns-clause-cut_off : goal.returns-clause-cut_off
returns-clause-cut_off c = none_cut_off

pub returns-clause-held_back : goal.returns-clause-held_back
returns-clause-held_back c = none_held_back
