-- Clients that are turned one after the other, each until it has its outcome. X is the type of the link, and `seen` what is
-- promised of it.
use Rattle.std.specs.Prelude.{◌≡◌, ◌≢◌, ℕ, zero, suc, ◌-◌, List, [], ◌∷◌, Some, length, slice_get, IsSome}
use Rattle.lc_world.specs.Link.{LinkSeen}
use Rattle.page_client.specs.Client.{shown}
use Rattle.convoy.specs.State.{ConvoyState, IsTurn}
use Rattle.convoy.specs.declared.member.Member.{Member}
use Rattle.convoy.specs.declared.turn.Turn.{Turn}
use Rattle.convoy.specs.declared.turn.Turn.TheVariants.{Exchanged}

-- a member has its outcome
abbrev pub HasOutcome : Member → Type 0
HasOutcome m = IsSome (shown m.client).outcome

-- a turn, and the convoy and the link before it
pub record Step (X : Type 0) : Type 0 where
  pub convoy : ConvoyState
  pub link : X
  pub turn : Turn

-- client k had its turn, and the link is as it was unless an exchange was made
pub record IsStep {X : Type 0} (seen : X → LinkSeen) (k : ℕ) (old new : ConvoyState) (before after : X) (turn : Turn) : Type 0 where
  pub turned : IsTurn old new k (seen before) (seen after) turn
  pub idle : turn ≢ Exchanged → after ≡ before

-- client k alone had these turns, the latest first
abbrev pub TurnsOf : {X : Type 0} → (X → LinkSeen) → ℕ → List (Step X) → ConvoyState → ConvoyState → X → X → Type 0
TurnsOf seen k [] old new before after = (new ≡ old) × (after ≡ before)
TurnsOf seen k (step ∷ earlier) old new before after =
    IsStep seen k step.convoy new step.link after step.turn × TurnsOf seen k earlier old step.convoy before step.link

-- client k was turned until it had its outcome
pub record Ends {X : Type 0} (seen : X → LinkSeen) (k : ℕ) (old new : ConvoyState) (before after : X) : Type 0 where
  pub steps : List (Step X)
  pub turns : TurnsOf seen k steps old new before after
  pub member : Member
  pub is : slice_get new.members (k - 1) ≡ Some member
  pub ended : HasOutcome member

-- client 1 was turned until it had its outcome, then client 2, and so on, up to client n
abbrev pub Rounds : {X : Type 0} → (X → LinkSeen) → ℕ → ConvoyState → ConvoyState → X → X → Type 0
Rounds seen zero old new before after = (new ≡ old) × (after ≡ before)
Rounds {X} seen (suc n) old new before after = (convoy : ConvoyState) × (link : X) × Rounds seen n old convoy before link × Ends seen (suc n) convoy new link after

-- no client is lost, and the base and whether memory ran out stay
pub record Keeps (old new : ConvoyState) : Type 0 where
  pub clients : length new.members ≡ length old.members
  pub base : new.base ≡ old.base
  pub spent : new.spent ≡ old.spent
