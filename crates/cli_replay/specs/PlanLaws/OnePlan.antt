-- That plans over quiet links with one side result in the same, where no exchange failed.
use Rattle.std.specs.Prelude.{◌≡◌, ℕ, List, length}
use Rattle.std.specs.List.{All, AllZip}
use Rattle.cli_ask.specs.Laws.{AreOneEnd, IsNoLinkFault}
use Rattle.cli_ask.specs.declared.end.ClientEnd.{ClientEnd}
use Rattle.connection_uri.specs.Base.{BaseParts}
use Rattle.cli_replay.specs.PlanLaws.Planned.{ArePlanned}
use Rattle.cli_replay.specs.ReplayLaws.Events.{TurnsAreOfClients, questions_in}
use Rattle.cli_replay.specs.declared.replay_laws.event.Event.{Event}
use Rattle.convoy.specs.Replies.Met.{Met}
use Rattle.lc_world.specs.Link.{LinkSeen}
use Rattle.lc_world.specs.Sides.Side.{Side}

-- The link was quiet with this side, and each question has an end, which is no fault of the link.
pub record IsQuietPlan (base : BaseParts) (side : Side) (all : List Event) (cache : ℕ) (before after : LinkSeen) (ends : List ClientEnd) (met : List Met) : Type 0 where
  pub quiet : before.quiet base
  pub planned : ArePlanned base side all cache before after ends met
  pub one_each : length ends ≡ length (questions_in all)
  pub no_fault : All (λ (end : ClientEnd). IsNoLinkFault end.outcome) ends

-- Two such plans of the same events have one end for each client: one version, outcomes that say the same, and one number of exchanges.
-- X and Y are the types of the links, and `seen` and `saw` what is promised of them.
abbrev pub OnePlan : {X Y : Type 0} → (X → LinkSeen) → (Y → LinkSeen) → Type 0
OnePlan {X} {Y} seen saw =
    (base : BaseParts) (side : Side) (all : List Event) (cache : ℕ) (before after : X) (other later : Y) (ends other_ends : List ClientEnd) (met other_met : List Met)
    → TurnsAreOfClients all → IsQuietPlan base side all cache (seen before) (seen after) ends met → IsQuietPlan base side all cache (saw other) (saw later) other_ends other_met
    → AllZip AreOneEnd ends other_ends
