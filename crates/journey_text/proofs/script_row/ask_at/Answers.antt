use Rattle.journey_text.proofs.script_row.ask_at.Goals as goal

pub returns-in_default : goal.returns-in_default
returns-in_default c = λ query says. c.in_default.ensures query.leave query.known query.horizon says.times
