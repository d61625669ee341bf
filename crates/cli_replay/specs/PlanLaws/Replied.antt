-- That over an honest link each reply that is recorded is that of the publisher's side at its exchange, also where the side grows.
use Rattle.std.specs.Prelude.{◌≡◌, List, [], ◌∷◌, ◌++◌, Some, option_map}
use Rattle.convoy.specs.Agreement.Replies.{IsRepliedBy}
use Rattle.lc_world.specs.Link.{LinkSeen}
use Rattle.lc_world.specs.declared.entry.Entry.{Entry}
use Rattle.lc_world.specs.Sides.Side.{IsLater, Side}

-- From the first side on to the last, each exchange was replied to by a side. Each of them is a later one of the one before.
abbrev pub AreRepliedAlong : Side → List Entry → Side → Type 0
AreRepliedAlong first [] last = IsLater first last
AreRepliedAlong first (entry ∷ more) last = (side : Side) × IsLater first side × IsRepliedBy side entry × AreRepliedAlong side more last

-- Where the link records exchanges, it records these besides those before. Their replies are of the sides from the first one on to the one that it
-- has now.
pub record TellsAlong (first : Side) (before after : LinkSeen) : Type 0 where
  pub last : Side
  pub last_is : after.side ≡ Some last
  pub entries : List Entry
  pub replied : AreRepliedAlong first entries last
  pub is : after.recorded ≡ option_map (λ (recorded : List Entry). recorded ++ entries) before.recorded
