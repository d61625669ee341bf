-- Whether a session goes on.
use Rattle.std.specs.Prelude.{Bool, true, false}
use Rattle.wire_session.specs.declared.phase.Phase.{Phase}
use Rattle.wire_session.specs.declared.phase.Phase.TheVariants.{Open, Ended, Spent}

-- it goes on no more
abbrev pub is_ended : Phase → Bool
is_ended Open = false
is_ended Ended = true
is_ended Spent = true
