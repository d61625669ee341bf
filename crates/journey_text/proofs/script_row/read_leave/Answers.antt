-- The text says one moment at most, and that one is tested.
use Rattle.std.proofs.Common.{◌≡◌, arith}
use Rattle.journey_text.proofs.script_row.read_leave.Goals as goal
use Rattle.journey_text.proofs.script_row.read_leave.Goals.{then-seconds-lt-FIRST_LEAVE-via-then-seconds-lt-FIRST_LEAVE, then-seconds-lt-FIRST_LEAVE-via-else-seconds-lt-FIRST_LEAVE+then-seconds-gt-LAST_LEAVE}

pub returns-in_default : goal.returns-in_default
returns-in_default c = λ leave says. absurd (cc (c.in_default.ensures.exact leave says.says))

pub returns-then-seconds-lt-FIRST_LEAVE : goal.returns-then-seconds-lt-FIRST_LEAVE
returns-then-seconds-lt-FIRST_LEAVE c = λ leave says.
    let low = says.not_before in
    let high = says.not_after in
    let same : c.in-Some.leave ≡ leave = cc (c.in-Some.ensures.exact leave says.says) in
    elim c.then-seconds-lt-FIRST_LEAVE.branch [
      | then-seconds-lt-FIRST_LEAVE-via-then-seconds-lt-FIRST_LEAVE w ↦ absurd (omega arith)
      | then-seconds-lt-FIRST_LEAVE-via-else-seconds-lt-FIRST_LEAVE+then-seconds-gt-LAST_LEAVE w ↦ absurd (omega arith)
    ]
