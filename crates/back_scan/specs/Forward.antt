-- The question of journeys that leave a horizon before the moment of arrival at the earliest.
use Rattle.std.specs.Prelude.{◌-◌, max}
use Rattle.std.proofs.Common.{lit≤}
use Rattle.std.proofs.Math.Nat.{le-max_left, le_trans, max-le, sub-le}
use Rattle.lc_model.specs.declared.query.Query.{Query}
use Rattle.lc_model.specs.declared.query.TheConstants.{FIRST_LEAVE}
use Rattle.back_scan.specs.declared.arrive_query.ArriveQuery.{ArriveQuery}

-- The question with the same stops, known moment and horizon. It leaves a horizon before the moment of arrival, or at the first moment
-- at which a question may leave.
abbrev pub forward_query : ArriveQuery → Query
forward_query asked = record {
  from = asked.from;
  to = asked.to;
  leave = max FIRST_LEAVE (asked.arrive - asked.horizon);
  known = asked.known;
  horizon = asked.horizon;
  not_before = le-max_left FIRST_LEAVE (asked.arrive - asked.horizon);
  not_after = max-le (lit≤ tt) (le_trans (sub-le asked.arrive asked.horizon) asked.not_after);
}
