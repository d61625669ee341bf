-- One client alone over a quiet link.
use Rattle.std.specs.Prelude.{◌≡◌, ◌⊎◌, ℕ, List, [], ◌∷◌, ◌++◌, length, Option, Some, None}
use Rattle.connection_uri.specs.Base.{BaseParts}
use Rattle.lc_model.specs.declared.query.Query.{Query}
use Rattle.lc_world.specs.Link.{IsQuietWith, LinkSeen}
use Rattle.page_client.specs.Client.{shown}
use Rattle.page_client.specs.declared.outcome.Outcome.TheVariants.{LinkFault}
use Rattle.page_client.specs.declared.want.Want.{Want}
use Rattle.page_client.specs.declared.want.Want.TheVariants as wants
use Rattle.lc_world.specs.Sides.Side.{Side}
use Rattle.convoy.specs.ClientLaws.Stated.{version_at}
use Rattle.convoy.specs.ClientLaws.Fits.{FitsSide}
use Rattle.convoy.specs.ClientLaws.Wants.{AreWants}
use Rattle.convoy.specs.Finish.{HasOutcome, Rounds}
use Rattle.convoy.specs.State.{Adds, ConvoyState, begun}
use Rattle.convoy.specs.declared.member.Member.{Member}
use Rattle.convoy.specs.Agreement.Leaves.{HasFault, RoseWithin}
use Rattle.convoy.specs.Agreement.Replies.{TellsReplies}
use Rattle.convoy.specs.Agreement.Requests.{TellsAsked}

-- the version of a client that received this: none where it received nothing, and else the one that its question means
abbrev pub version_of : Side → Query → List Want → Option ℕ
version_of side query [] = None
version_of side query (want ∷ more) = Some (version_at side query.known)

-- what a client that received this wants next: the time gate, and after it the next one of its wants
pub record IsNext (side : Side) (query : Query) (given : List Want) (want : Want) : Type 0 where
  pub gate : given ≡ [] → want ≡ wants.Gate
  pub next : (all : List Want) → AreWants side (version_at side query.known) query all → (more : List Want) × (all ≡ given ++ want ∷ more)

-- it ended by no fault of the link, and asked for exactly what it received
pub record AskedAll (member : Member) (given asked : List Want) : Type 0 where
  pub no_fault : ¬ HasFault (shown member.client)
  pub are : asked ≡ given

-- it ended by a fault of the link: after what it received it asked for the next one of its wants
pub record AskedOneMore (side : Side) (query : Query) (member : Member) (given asked : List Want) : Type 0 where
  pub by_fault : HasFault (shown member.client)
  pub want : Want
  pub is_next : IsNext side query given want
  pub are : asked ≡ given ++ want ∷ []

-- What one client alone results in over a quiet link with this side. It agrees with the side, and received these wants. It has its outcome,
-- and the version that its question means. It asked for what it received, and for the one that failed. Each exchange is counted. The link
-- records it where it records exchanges, with the side's own reply. The link is as it was but for that.
pub record IsAlone (side : Side) (base : BaseParts) (query : Query) (new : ConvoyState) (before after : LinkSeen) : Type 0 where
  pub member : Member
  pub only : new.members ≡ member ∷ []
  pub given : List Want
  pub fits : FitsSide side member.client given
  pub ended : HasOutcome member
  pub query_is : (shown member.client).query ≡ query
  pub version_is : (shown member.client).version ≡ version_of side query given
  pub asked : List Want
  pub exact : AskedAll member given asked ⊎ AskedOneMore side query member given asked
  pub count : member.exchanges ≡ length asked
  pub recorded : TellsAsked before.recorded after.recorded base query asked
  pub replied : TellsReplies side before.recorded after.recorded
  pub fault : (low high : ℕ) → (shown member.client).outcome ≡ Some (LinkFault low high) → RoseWithin before.faults after.faults low high
  pub quiet : IsQuietWith after base side
  pub clear : before.clear → after.clear

-- A convoy with one client of this question, which is turned until it has its outcome.
abbrev pub OneClientEndsRight : {X : Type 0} → (X → LinkSeen) → Type 0
OneClientEndsRight {X} seen =
    (side : Side) (base : BaseParts) (capacity : ℕ) (query : Query) (start new : ConvoyState) (before after : X) → IsQuietWith (seen before) base side
    → Adds (begun base capacity) query start → Rounds seen (length start.members) start new before after
    → IsAlone side base query new (seen before) (seen after)
