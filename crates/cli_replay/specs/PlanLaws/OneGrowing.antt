-- That plans over links whose sides grow result in the same, where the time gates named the same versions and no exchange failed.
use Rattle.std.specs.Prelude.{◌≡◌, ℕ, List, length, Some}
use Rattle.std.specs.List.{All, AllZip}
use Rattle.cli_ask.specs.Laws.{AreOneEnd, IsNoLinkFault}
use Rattle.cli_ask.specs.declared.end.ClientEnd.{ClientEnd}
use Rattle.connection_uri.specs.Base.{BaseParts}
use Rattle.cli_replay.specs.PlanLaws.Planned.{ArePlanned}
use Rattle.cli_replay.specs.ReplayLaws.Events.{TurnsAreOfClients, questions_in}
use Rattle.cli_replay.specs.declared.replay_laws.event.Event.{Event}
use Rattle.convoy.specs.Replies.Met.{Met}
use Rattle.lc_world.specs.Link.{LinkSeen}
use Rattle.lc_world.specs.Sides.Side.{IsLater, IsValidSide, Side}

-- The link had this side first and that side last. Each question has an end, which is no fault of the link.
pub record IsGrowingPlan (base : BaseParts) (first last : Side) (all : List Event) (cache : ℕ) (before after : LinkSeen) (ends : List ClientEnd) (met : List Met) : Type 0 where
  pub planned : ArePlanned base first all cache before after ends met
  pub last_is : after.side ≡ Some last
  pub one_each : length ends ≡ length (questions_in all)
  pub no_fault : All (λ (end : ClientEnd). IsNoLinkFault end.outcome) ends

-- the time gates named one version to each client
abbrev pub NameTheSame : List ClientEnd → List ClientEnd → Type 0
NameTheSame ends others = AllZip (λ (a b : ClientEnd). a.version ≡ b.version) ends others

-- Two such plans of the same events have one end for each client, where the time gates named equal versions. Both last sides grew, or
-- may grow, into one valid side. Their outcomes say the same, and exchanges are as many. X and Y are the types of the links.
abbrev pub OneGrowingPlan : {X Y : Type 0} → (X → LinkSeen) → (Y → LinkSeen) → Type 0
OneGrowingPlan {X} {Y} seen saw =
    (base : BaseParts) (first last second end whole : Side) (all : List Event) (cache : ℕ) (before after : X) (other later : Y) (ends other_ends : List ClientEnd) (met other_met : List Met)
    → TurnsAreOfClients all → IsValidSide whole → IsLater last whole → IsLater end whole
    → IsGrowingPlan base first last all cache (seen before) (seen after) ends met → IsGrowingPlan base second end all cache (saw other) (saw later) other_ends other_met
    → NameTheSame ends other_ends → AllZip AreOneEnd ends other_ends
