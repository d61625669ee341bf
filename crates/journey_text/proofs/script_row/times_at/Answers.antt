use Rattle.std.proofs.Common.{ℕ, List, subst, sym}
use Rattle.journey_text.specs.Script.{SaysLeave}
use Rattle.journey_text.proofs.script_row.times_at.Goals as goal

pub returns-in_default : goal.returns-in_default
returns-in_default c = λ leave known horizon says.
    c.in_default.ensures leave (subst (λ (text : List ℕ). SaysLeave text leave) (sym c.field_at.ensures) says.leave_is)
