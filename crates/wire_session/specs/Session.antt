-- What the fields of a session stand for, and what holds of them.
use Rattle.std.specs.Prelude.{◌≡◌, ◌<◌, Result, Ok, Err}
use Rattle.lc_model.specs.declared.memory.NoMemory.{NoMemory}
use Rattle.wire_session.specs.Stands.{Held}
use Rattle.wire_session.specs.declared.fed.Fed.{Fed}
use Rattle.wire_session.specs.declared.fed.Fed.TheVariants as after
use Rattle.wire_session.specs.declared.phase.Phase.{Phase}
use Rattle.wire_session.specs.declared.phase.Phase.TheVariants.{Open, Ended, Spent}
use Rattle.wire_session.specs.declared.session.Session.TheInside.{Inside}

-- what the fields hold
abbrev pub held_of : Inside → Held
held_of fields = record {
  pending = fields.replies.output;
  requests = fields.replies.count;
  phase = fields.phase;
  waiting = fields.input.items;
  waits_for = fields.room.waits_for;
}

-- a session that goes on has given fewer than 100 replies
abbrev pub HasRoom : Inside → Type 0
HasRoom fields = fields.phase ≡ Open → fields.replies.count < 100

-- whether a session goes on after an answer of `feed`
abbrev pub phase_of : Result Fed NoMemory → Phase
phase_of (Ok after.More) = Open
phase_of (Ok after.Ended) = Ended
phase_of (Err fault) = Spent
