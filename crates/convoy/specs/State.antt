-- What a contract sees of a convoy.
use Rattle.std.specs.Prelude.{◌≡◌, ◌≢◌, ℕ, ◌-◌, ◌<◌, Bool, false, List, [], ◌∷◌, ◌++◌, Some, slice_get, slice_set}
use Rattle.std.specs.List.{All}
use Rattle.connection_uri.specs.Base.{BaseParts}
use Rattle.lc_world.specs.Link.{LinkSeen}
use Rattle.page_client.specs.Kept.{Kept}
use Rattle.lc_model.specs.declared.query.Query.{Query}
use Rattle.page_client.specs.Client.{shown}
use Rattle.page_client.specs.Shown.{Begins, exchanges_left}
use Rattle.convoy.specs.Steps.{IsDecided, MayBeTaken}
use Rattle.convoy.specs.Turn.{Turned}
use Rattle.convoy.specs.declared.member.Member.{Member}
use Rattle.convoy.specs.declared.turn.Turn.{Turn}
use Rattle.convoy.specs.declared.turn.Turn.TheVariants.{Finished}

-- the base under which the clients ask, the clients with their numbers of exchanges, the pages that they share, and whether
-- memory has run out
pub record ConvoyState : Type 0 where
  pub base : BaseParts
  pub members : List Member
  pub kept : Kept
  pub spent : Bool

-- What holds of every convoy: the cached pages may be taken, and unless memory ran out each client waits or has its
-- outcome.
pub record IsSound (members : List Member) (kept : Kept) (spent : Bool) : Type 0 where
  pub pages : All MayBeTaken kept.pages
  pub decided : spent ≡ false → All (λ (m : Member). IsDecided (shown m.client)) members

-- no client yet, and an empty cache
abbrev pub begun : BaseParts → ℕ → ConvoyState
begun base capacity = record { base = base; members = []; kept = record { capacity = capacity; pages = [] }; spent = false }

-- a client of this question is there too, which begins, and nothing else changes
pub record Adds (old : ConvoyState) (query : Query) (new : ConvoyState) : Type 0 where
  pub member : Member
  pub begins : Begins query (shown member.client)
  pub none_made : member.exchanges ≡ 0
  pub is : new ≡ record old { members = old.members ++ member ∷ [] }

-- Client k had its turn. It has become this one, with fewer exchanges left unless it had its outcome before, and waits or has its outcome.
-- Every other client stays as it is, and so does the base.
pub record IsTurn (old new : ConvoyState) (k : ℕ) (before after : LinkSeen) (turn : Turn) : Type 0 where
  pub was : Member
  pub had : slice_get old.members (k - 1) ≡ Some was
  pub is : Member
  pub turned : Turned old.base was is old.kept new.kept before after turn
  pub fewer : turn ≢ Finished → exchanges_left (shown is.client) < exchanges_left (shown was.client)
  pub decided : IsDecided (shown is.client)
  pub members : new.members ≡ slice_set old.members (k - 1) is
  pub base : new.base ≡ old.base
  pub spent : new.spent ≡ old.spent
