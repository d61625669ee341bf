-- Worked values: three turns of two clients, at three sides.
use Rattle.std.specs.Prelude.{◌≡◌, ℕ, [], ◌∷◌, Option, Some, None}
use Rattle.convoy.specs.Agreement.Names.{Round}
use Rattle.cli_replay.specs.PlanLaws.Sides.{sides_of, version_after}
use Rattle.convoy.specs.ClientLaws.Stated.{version_at}
use Rattle.page_client.specs.declared.want.Want.{Want}
use Rattle.page_client.specs.declared.want.Want.TheVariants as wants
use Rattle.lc_world.specs.Sides.Side.{Side}

-- a turn in which this was received
abbrev pub received : Want → Round
received want = record { given = want ∷ []; failed = []; asked = want ∷ [] }

-- a turn in which the exchange failed
abbrev pub lost : Want → Round
lost want = record { given = []; failed = want ∷ []; asked = want ∷ [] }

-- Clients 1, 2 and 1 have turns at three sides. Client 1 has the version of its time gate turn, though the side grew until its second turn. One whose
-- exchange with the time gate failed has none.
pub record WorkedSides (a b c : Side) (known : Option ℕ) : Type 0 where
  pub own : sides_of 1 (1 ∷ 2 ∷ 1 ∷ []) (a ∷ b ∷ c ∷ []) ≡ a ∷ c ∷ []
  pub other : sides_of 2 (1 ∷ 2 ∷ 1 ∷ []) (a ∷ b ∷ c ∷ []) ≡ b ∷ []
  pub version : version_after known (received wants.Gate ∷ received wants.Stops ∷ []) (a ∷ c ∷ []) None ≡ Some (version_at a known)
  pub none : version_after known (lost wants.Gate ∷ []) (b ∷ []) None ≡ None
