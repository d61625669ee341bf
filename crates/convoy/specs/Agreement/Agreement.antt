-- When a convoy agrees with the side that its clients ask.
use Rattle.std.specs.Prelude.{List, [], ◌∷◌}
use Rattle.std.specs.List.{All}
use Rattle.page_client.specs.declared.want.Want.{Want}
use Rattle.lc_world.specs.Sides.Side.{Side}
use Rattle.convoy.specs.ClientLaws.Fits.{FitsSide}
use Rattle.convoy.specs.ClientLaws.Published.{IsOwnPage}
use Rattle.convoy.specs.State.{ConvoyState}
use Rattle.convoy.specs.declared.member.Member.{Member}

-- each client agrees with the side, and received what the list has at its place
abbrev pub AllFit : Side → List Member → List (List Want) → Type 0
AllFit side [] [] = Unit {0}
AllFit side [] (given ∷ more) = ⊥
AllFit side (member ∷ others) [] = ⊥
AllFit side (member ∷ others) (given ∷ more) = FitsSide side member.client given × AllFit side others more

-- the convoy agrees with the side: its clients do, and each cached page is the side's own page of its name
pub record FitsConvoy (side : Side) (convoy : ConvoyState) (given : List (List Want)) : Type 0 where
  pub clients : AllFit side convoy.members given
  pub pages : All (IsOwnPage side) convoy.kept.pages
