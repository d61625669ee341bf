-- That the rounds of clients and what clients received are one history.
use Rattle.std.specs.Prelude.{◌≡◌, ℕ, List, [], ◌∷◌, ◌++◌, None, IsSome, map}
use Rattle.std.specs.List.{All}
use Rattle.convoy.specs.Replies.Met.{Met, asked_in}
use Rattle.convoy.specs.Agreement.Names.{Round}
use Rattle.page_client.specs.declared.want.Want.{Want}

-- what was wanted
abbrev pub wants_of : List Met → List Want
wants_of all = map (λ (met : Met). met.made.want) all

-- The client received all this in the round. What it took came by the replies that it got. After that it got no reply to what failed.
-- It asked for the wants of its own exchanges.
pub record IsMetIn (client : ℕ) (round : Round) (all : List Met) : Type 0 where
  pub own : All (λ (met : Met). met.client ≡ client) all
  pub replied : List Met
  pub lost : List Met
  pub are : all ≡ replied ++ lost
  pub given : round.given ≡ wants_of replied
  pub got : All (λ (met : Met). IsSome met.made.got) replied
  pub failed : round.failed ≡ wants_of lost
  pub got_none : All (λ (met : Met). met.made.got ≡ None) lost
  pub asked : round.asked ≡ wants_of (asked_in all)

-- clients received all this in their rounds in this order, part after part
abbrev pub AreMetIn : List ℕ → List Round → List Met → Type 0
AreMetIn [] [] all = all ≡ []
AreMetIn [] (round ∷ rounds) all = ⊥
AreMetIn (client ∷ order) [] all = ⊥
AreMetIn (client ∷ order) (round ∷ rounds) all = (part : List Met) × (rest : List Met) × (all ≡ part ++ rest) × IsMetIn client round part × AreMetIn order rounds rest
