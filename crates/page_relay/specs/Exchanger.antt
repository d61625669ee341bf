-- Links with the replies that are kept of them.
use Rattle.std.specs.Prelude.{ℕ, List, []}
use Rattle.connection_uri.specs.Base.{BaseParts}
use Rattle.lc_world.specs.Link.{LinkSeen}
use Rattle.page_relay.specs.Fits.{RelaysHonestly}
use Rattle.page_relay.specs.Kept.{Kept}

-- how many replies are kept at most, and those that are, the most recently used first
pub record MemoryState : Type 0 where
  pub entries : ℕ
  pub kept : List Kept

-- the base under which replies are kept, and the memory of them
pub record KeeperState : Type 0 where
  pub base : BaseParts
  pub memory : MemoryState

-- the link below, the base, the memory, and how many exchanges were handed on
pub record ExchangerState (L : Type 0) : Type 0 where
  pub inner : L
  pub base : BaseParts
  pub memory : MemoryState
  pub forwarded : ℕ

-- one over a link by which nothing was asked yet
abbrev pub new_exchanger : {L : Type 0} → L → BaseParts → ℕ → ExchangerState L
new_exchanger inner base entries = record { inner = inner; base = base; memory = record { entries = entries; kept = [] }; forwarded = 0 }

-- What is promised of it, by what is promised of links like the one below: all of that link, but for when it is honest. It is where that link is
-- and what it keeps agrees with the side.
abbrev pub exchanger_seen : {L : Type 0} → (L → LinkSeen) → ExchangerState L → LinkSeen
exchanger_seen seen exchanger = record {
  side = (seen exchanger.inner).side;
  recorded = (seen exchanger.inner).recorded;
  honest = λ base. RelaysHonestly ((seen exchanger.inner).honest base) (seen exchanger.inner).side exchanger.memory.kept;
  quiet = (seen exchanger.inner).quiet;
  clear = (seen exchanger.inner).clear;
  still = (seen exchanger.inner).still;
  faults = (seen exchanger.inner).faults;
}
