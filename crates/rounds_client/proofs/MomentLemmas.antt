-- That a journey which was found arrives at a moment.
use Rattle.std.proofs.Common.{ℕ, ◌+◌, ◌<◌, ◌≤◌, List, Some, arith}
use Rattle.lc_model.specs.Journey.{arrives_at}
use Rattle.lc_model.specs.declared.connection.Connection.{Connection}
use Rattle.lc_model.specs.declared.doc.StopsDoc.{StopsDoc}
use Rattle.lc_model.specs.declared.journey.Journey.{Journey}
use Rattle.lc_model.specs.declared.moment.TheConstants.{MOMENTS_END}
use Rattle.lc_model.specs.declared.query.Query.{Query}
use Rattle.lc_model.specs.declared.query.TheConstants.{LAST_LEAVE}
use Rattle.page_client.specs.Shown.{HasHorizon}
use Rattle.change_rounds.specs.Fewest.{IsFewestChain}

-- within a week of any moment of leaving there are only moments
within_a_week : (arrival leave horizon : ℕ) → horizon ≤ 604_800 → leave ≤ LAST_LEAVE → arrival ≤ leave + horizon → arrival < MOMENTS_END
within_a_week arrival leave horizon week not_after in_time = omega arith

pub arrives_at_a_moment : (query : Query) (doc : StopsDoc) (list : List Connection) (journey : Journey) → HasHorizon query → IsFewestChain query doc list (Some journey) → arrives_at journey < MOMENTS_END
arrives_at_a_moment query doc list journey horizon fewest =
    within_a_week (arrives_at journey) query.leave query.horizon horizon.up_to_a_week query.not_after fewest.is_best.is_journey.in_time
