-- What is left of a link after calls, however many there were and however each ended. Each may have run out of memory.
use Rattle.std.specs.Prelude.{◌≡◌, ◌≤◌, ℕ, List, ◌++◌, Option, option_map}
use Rattle.connection_uri.specs.Base.{BaseParts}
use Rattle.lc_world.specs.Sides.Side.{IsLater, Side}
use Rattle.lc_world.specs.Link.{IsHonestWith, LinkSeen}
use Rattle.lc_world.specs.declared.entry.Entry.{Entry}

-- what is recorded now begins with what was recorded before, where exchanges are recorded
pub record RecordsMore (before after : Option (List Entry)) : Type 0 where
  pub more : List Entry
  pub is : after ≡ option_map (λ (recorded : List Entry). recorded ++ more) before

-- The count has not fallen, nothing is lost of what was recorded, and a clear link is clear.
pub record LosesNothing (faults now_faults : ℕ) (recorded now_recorded : Option (List Entry)) (was_clear is_clear : Type 0) : Type 0 where
  pub not_fallen : faults ≤ now_faults
  pub recorded_more : RecordsMore recorded now_recorded
  pub clear : was_clear → is_clear

-- the link has gone on
abbrev pub HasGoneOn : LinkSeen → LinkSeen → Type 0
HasGoneOn before after = LosesNothing before.faults after.faults before.recorded after.recorded before.clear after.clear

-- The link that was honest with this side is honest with a later one, or the same. A quiet one is quiet, with the same side.
pub record IsLeftHonest (before after : LinkSeen) (base : BaseParts) (side : Side) : Type 0 where
  pub left : Side
  pub honest : IsHonestWith after base left
  pub later : IsLater side left
  pub same : before.quiet base → left ≡ side
  pub quiet : before.quiet base → after.quiet base

-- What GETs leave of a link: it has gone on, and an honest one is honest. One whose side stays at a GET has its side still.
pub record IsLeftByGets (before after : LinkSeen) : Type 0 where
  pub gone_on : HasGoneOn before after
  pub honest : (base : BaseParts) (side : Side) → IsHonestWith before base side → IsLeftHonest before after base side
  pub still : before.still → after.still
  pub side : before.still → after.side ≡ before.side

-- What answers that are handed on leave of a link: it has gone on, and its side is as it was.
pub record IsLeftByPasses (before after : LinkSeen) : Type 0 where
  pub gone_on : HasGoneOn before after
  pub side : after.side ≡ before.side
