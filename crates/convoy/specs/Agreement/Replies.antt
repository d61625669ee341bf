-- That the replies that a link records are those of the publisher at its other end.
use Rattle.std.specs.Prelude.{◌≡◌, ℕ, List, ◌++◌, length, Option, option_map}
use Rattle.std.specs.List.{All}
use Rattle.lc_world.specs.declared.entry.Entry.{Entry}
use Rattle.lc_world.specs.declared.entry.RecordedReply.TheVariants.{Reply}
use Rattle.lc_world.specs.Sides.Reply.{IsReply}
use Rattle.lc_world.specs.Sides.Side.{Side}

-- the reply of the entry, where it has one, is what the side replies to its request
abbrev pub IsRepliedBy : Side → Entry → Type 0
IsRepliedBy side entry = (reply : List ℕ) → entry.reply ≡ Reply reply → IsReply side entry.request reply

-- where exchanges are recorded, these were, besides those before, and each was replied to by the side
pub record TellsReplies (side : Side) (before after : Option (List Entry)) : Type 0 where
  pub entries : List Entry
  pub own : All (IsRepliedBy side) entries
  pub is : after ≡ option_map (λ (recorded : List Entry). recorded ++ entries) before

-- where exchanges are recorded, there are this many of them
pub record TellsSoMany (side : Side) (count : ℕ) (before after : Option (List Entry)) : Type 0 where
  pub replies : TellsReplies side before after
  pub count_is : length replies.entries ≡ count
