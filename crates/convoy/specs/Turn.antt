-- What becomes of a client at its turn, and of the cache.
use Rattle.std.specs.Prelude.{◌≡◌, ◌+◌, ◌⊎◌, None, IsSome}
use Rattle.connection_uri.specs.Base.{BaseParts}
use Rattle.lc_world.specs.Link.{LinkSeen}
use Rattle.page_client.specs.Kept.{Kept}
use Rattle.page_client.specs.Client.{shown}
use Rattle.page_client.specs.declared.client.Client.{Client}
use Rattle.convoy.specs.Steps.{AsksGate, AsksPage, AsksStops, HoldsPage}
use Rattle.convoy.specs.declared.member.Member.{Member}
use Rattle.convoy.specs.declared.turn.Turn.{Turn}
use Rattle.convoy.specs.declared.turn.Turn.TheVariants.{Cached, Exchanged, Finished}

-- one exchange was made: the time gate was asked, or the stops document, or a page
abbrev pub Asks : BaseParts → Client → Client → Kept → Kept → LinkSeen → LinkSeen → Type 0
Asks base old new kept after_kept before after =
    (AsksGate base old new before after × (after_kept ≡ kept)) ⊎ (AsksStops base old new before after × (after_kept ≡ kept)) ⊎ AsksPage base old new kept after_kept before after

-- nothing happened, as there was an outcome before
pub record IsFinished (old new : Member) (kept after_kept : Kept) : Type 0 where
  pub had : IsSome (shown old.client).outcome
  pub member : new ≡ old
  pub cache : after_kept ≡ kept

-- a page of the cache was taken
pub record IsCached (old new : Member) (kept after_kept : Kept) : Type 0 where
  pub had_none : (shown old.client).outcome ≡ None
  pub holds : HoldsPage old.client new.client kept after_kept
  pub same_count : new.exchanges ≡ old.exchanges

-- one exchange was made, and counted
pub record IsExchanged (base : BaseParts) (old new : Member) (kept after_kept : Kept) (before after : LinkSeen) : Type 0 where
  pub had_none : (shown old.client).outcome ≡ None
  pub asks : Asks base old.client new.client kept after_kept before after
  pub one_more : new.exchanges ≡ old.exchanges + 1

-- what a member's turn did
abbrev pub Turned : BaseParts → Member → Member → Kept → Kept → LinkSeen → LinkSeen → Turn → Type 0
Turned base old new kept after_kept before after Finished = IsFinished old new kept after_kept
Turned base old new kept after_kept before after Cached = IsCached old new kept after_kept
Turned base old new kept after_kept before after Exchanged = IsExchanged base old new kept after_kept before after
