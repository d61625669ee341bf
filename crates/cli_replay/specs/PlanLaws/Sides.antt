-- The sides of a link that grows while clients have their turns, and which version the time gate names to each client.
use Rattle.std.specs.Prelude.{◌==◌, ℕ, List, [], ◌∷◌, Option, Some, if◌then◌else◌}
use Rattle.convoy.specs.Agreement.Names.{Round}
use Rattle.convoy.specs.ClientLaws.Stated.{version_at}
use Rattle.page_client.specs.declared.want.Want.{Want}
use Rattle.page_client.specs.declared.want.Want.TheVariants as wants
use Rattle.lc_world.specs.Sides.Side.{IsLater, Side}

-- each side is a later one of the side before it, from the first to the last
abbrev pub AreLater : Side → List Side → Side → Type 0
AreLater first [] last = IsLater first last
AreLater first (side ∷ more) last = IsLater first side × AreLater side more last

-- the sides of the turns of this client, where all turns have this order
abbrev pub sides_of : ℕ → List ℕ → List Side → List Side
sides_of client [] sides = []
sides_of client (other ∷ more) [] = []
sides_of client (other ∷ more) (side ∷ sides) = if other == client then side ∷ sides_of client more sides else sides_of client more sides

-- a client's version after a turn: where the turn begins with the time gate's reply, the one that its side names; else as before
abbrev pub version_with : Side → Option ℕ → List Want → Option ℕ → Option ℕ
version_with side known [] before = before
version_with side known (wants.Gate ∷ more) before = Some (version_at side known)
version_with side known (wants.Stops ∷ more) before = before
version_with side known (wants.Page name ∷ more) before = before
version_with side known (wants.Finished ∷ more) before = before

-- its version after these turns, with the side of each
abbrev pub version_after : Option ℕ → List Round → List Side → Option ℕ → Option ℕ
version_after known [] sides before = before
version_after known (round ∷ rounds) [] before = before
version_after known (round ∷ rounds) (side ∷ sides) before = version_after known rounds sides (version_with side known round.given before)
