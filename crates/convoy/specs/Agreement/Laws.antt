-- That a convoy over an honest link goes on to agree with the side of that link. X is the type of the link, and `seen` what is promised
-- of it.
use Rattle.std.specs.Prelude.{ℕ, List, [], ◌∷◌, ◌++◌}
use Rattle.connection_uri.specs.Base.{BaseParts}
use Rattle.lc_model.specs.declared.query.Query.{Query}
use Rattle.lc_world.specs.Link.{IsHonestWith, LinkSeen}
use Rattle.page_client.specs.Client.{shown}
use Rattle.page_client.specs.declared.want.Want.{Want}
use Rattle.lc_world.specs.Sides.Side.{IsLater, IsValidSide, Side}
use Rattle.convoy.specs.Finish.{Ends, IsStep, Rounds}
use Rattle.convoy.specs.State.{Adds, ConvoyState, begun}
use Rattle.convoy.specs.declared.turn.Turn.{Turn}
use Rattle.convoy.specs.Agreement.Agreement.{FitsConvoy}
use Rattle.convoy.specs.Agreement.Leaves.{AgreesAfterOutcome, AgreesAfterRounds, AgreesAfterTurn}
use Rattle.convoy.specs.Agreement.Rounds.{round_at, round_in, rounds_up_to}

-- a convoy without clients agrees with every side
abbrev pub NoneAgrees : Type 0
NoneAgrees = (side : Side) (base : BaseParts) (capacity : ℕ) → FitsConvoy side (begun base capacity) []

-- a client more is there, which received nothing yet
abbrev pub AddedAgrees : Type 0
AddedAgrees =
    (side : Side) (old new : ConvoyState) (so_far : List (List Want)) (query : Query) → FitsConvoy side old so_far → Adds old query new
    → FitsConvoy side new (so_far ++ [] ∷ [])

-- a convoy that agrees with a side agrees with every later one
abbrev pub LaterAgrees : Type 0
LaterAgrees =
    (before after : Side) (convoy : ConvoyState) (so_far : List (List Want)) → IsValidSide after → IsLater before after → FitsConvoy before convoy so_far
    → FitsConvoy after convoy so_far

-- each turn over an honest link keeps the agreement
abbrev pub TurnKeepsAgreement : {X : Type 0} → (X → LinkSeen) → Type 0
TurnKeepsAgreement {X} seen =
    (side : Side) (old new : ConvoyState) (so_far : List (List Want)) (k : ℕ) (before after : X) (turn : Turn) → IsHonestWith (seen before) old.base side
    → FitsConvoy side old so_far → (step : IsStep seen k old new before after turn)
    → AgreesAfterTurn side old new so_far k (seen before) (seen after) turn (round_at turn (shown step.turned.was.client) (shown step.turned.is.client))

-- the turns of a client to its outcome keep the agreement
abbrev pub EndKeepsAgreement : {X : Type 0} → (X → LinkSeen) → Type 0
EndKeepsAgreement {X} seen =
    (side : Side) (old new : ConvoyState) (so_far : List (List Want)) (k : ℕ) (before after : X) → IsHonestWith (seen before) old.base side
    → FitsConvoy side old so_far → (ends : Ends seen k old new before after)
    → AgreesAfterOutcome side old new so_far k (seen before) (seen after) (round_in seen k ends.steps old new before after ends.turns)

-- and the rounds of some or all clients
abbrev pub RoundsKeepAgreement : {X : Type 0} → (X → LinkSeen) → Type 0
RoundsKeepAgreement {X} seen =
    (side : Side) (old new : ConvoyState) (so_far : List (List Want)) (n : ℕ) (before after : X) → IsHonestWith (seen before) old.base side
    → FitsConvoy side old so_far → (rounds : Rounds seen n old new before after)
    → AgreesAfterRounds side old new so_far n (seen before) (seen after) (rounds_up_to seen n old new before after rounds)
