-- The round of a turn.
use Rattle.std.proofs.Common.{◌≡◌, ℕ, List, [], ◌∷◌, ◌++◌, Option, Some, None, ap₂, refl, ◌∙◌}
use Rattle.page_client.specs.declared.outcome.Outcome.{Outcome}
use Rattle.page_client.specs.declared.outcome.Outcome.TheVariants as outcomes
use Rattle.page_client.specs.declared.want.Want.{Want}
use Rattle.convoy.specs.Agreement.Names.{Round}
use Rattle.convoy.specs.Agreement.Rounds.{round_asked, round_then, round_with}

-- what was asked for was received where the client did not end by a fault of the link
pub round_replied : (want : Want) (outcome : Option Outcome) → ((low high : ℕ) → outcome ≡ Some (outcomes.LinkFault low high) → ⊥) → round_asked want outcome ≡ round_with (want ∷ []) [] (want ∷ [])
round_replied want None no_fault = refl
round_replied want (Some (outcomes.Found journey)) no_fault = refl
round_replied want (Some outcomes.NoJourney) no_fault = refl
round_replied want (Some (outcomes.Refused fault)) no_fault = refl
round_replied want (Some (outcomes.LinkFault low high)) no_fault = absurd (no_fault low high refl)
round_replied want (Some (outcomes.PeerWrong reply fault)) no_fault = refl

-- rounds with the same
pub same_round : (given failed asked : List Want) (round : Round) → given ≡ round.given → failed ≡ round.failed → asked ≡ round.asked → round_with given failed asked ≡ round
same_round given failed asked round is_given is_failed is_asked = λ i. round_with (is_given i) (is_failed i) (is_asked i)

-- what was in two rounds, one after the other
pub round_of_both : (given failed asked : List Want) (first second one two : Round) → given ≡ first.given ++ second.given → failed ≡ first.failed ++ second.failed →
    asked ≡ first.asked ++ second.asked → first ≡ one → second ≡ two → round_with given failed asked ≡ round_then one two
round_of_both given failed asked first second one two is_given is_failed is_asked is_one is_two =
    same_round given failed asked (round_then first second) is_given is_failed is_asked ∙ ap₂ round_then is_one is_two
