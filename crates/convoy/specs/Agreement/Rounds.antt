-- The rounds of clients, as their turns give them.
use Rattle.std.specs.Prelude.{ℕ, zero, suc, List, [], ◌∷◌, ◌++◌, Option, Some, None}
use Rattle.convoy.specs.Finish.{Rounds, Step, TurnsOf}
use Rattle.convoy.specs.State.{ConvoyState}
use Rattle.convoy.specs.declared.turn.Turn.{Turn}
use Rattle.convoy.specs.declared.turn.Turn.TheVariants.{Cached, Exchanged, Finished}
use Rattle.lc_world.specs.Link.{LinkSeen}
use Rattle.page_client.specs.Client.{shown}
use Rattle.page_client.specs.Shown.{Shown, want_of}
use Rattle.page_client.specs.declared.outcome.Outcome.{Outcome}
use Rattle.page_client.specs.declared.outcome.Outcome.TheVariants as outcomes
use Rattle.page_client.specs.declared.want.Want.{Want}
use Rattle.convoy.specs.Agreement.Names.{Round}

-- this was received, this failed, and this was asked for
abbrev pub round_with : List Want → List Want → List Want → Round
round_with given failed asked = record { given = given; failed = failed; asked = asked }

-- one after the other
abbrev pub round_then : Round → Round → Round
round_then first second = round_with (first.given ++ second.given) (first.failed ++ second.failed) (first.asked ++ second.asked)

-- the want was asked for: it was received, unless the client ended by a fault of the link
abbrev pub round_asked : Want → Option Outcome → Round
round_asked want None = round_with (want ∷ []) [] (want ∷ [])
round_asked want (Some (outcomes.Found journey)) = round_with (want ∷ []) [] (want ∷ [])
round_asked want (Some outcomes.NoJourney) = round_with (want ∷ []) [] (want ∷ [])
round_asked want (Some (outcomes.Refused fault)) = round_with (want ∷ []) [] (want ∷ [])
round_asked want (Some (outcomes.LinkFault low high)) = round_with [] (want ∷ []) (want ∷ [])
round_asked want (Some (outcomes.PeerWrong reply fault)) = round_with (want ∷ []) [] (want ∷ [])

-- a turn in which the client became another
abbrev pub round_at : Turn → Shown → Shown → Round
round_at Finished was is = round_with [] [] []
round_at Cached was is = round_with (want_of was.phase ∷ []) [] []
round_at Exchanged was is = round_asked (want_of was.phase) is.outcome

-- turns of client k, the latest first
abbrev pub round_in : {X : Type 0} (seen : X → LinkSeen) (k : ℕ) (steps : List (Step X)) (old new : ConvoyState) (before after : X) → TurnsOf seen k steps old new before after → Round
round_in seen k [] old new before after turns = round_with [] [] []
round_in seen k (step ∷ earlier) old new before after (last, turns) =
    round_then (round_in seen k earlier old step.convoy before step.link turns) (round_at step.turn (shown last.turned.was.client) (shown last.turned.is.client))

-- the rounds of client 1, of client 2, and so on, up to client n
abbrev pub rounds_up_to : {X : Type 0} (seen : X → LinkSeen) (n : ℕ) (old new : ConvoyState) (before after : X) → Rounds seen n old new before after → List Round
rounds_up_to seen zero old new before after rounds = []
rounds_up_to seen (suc n) old new before after (convoy, link, rounds, ends) =
    rounds_up_to seen n old convoy before link rounds ++ round_in seen (suc n) ends.steps convoy new link after ends.turns ∷ []
