-- Relays: links over a link, which keep replies.
use Rattle.std.specs.Prelude.{ℕ, Bool, true, List, [], ◌∷◌, ◌++◌, length, Option, Some, None}
use Rattle.connection_uri.specs.Base.{BaseParts}
use Rattle.lc_world.specs.Link.{LinkSeen}
use Rattle.lc_world.specs.ListLink.{entry_of}
use Rattle.lc_world.specs.declared.entry.Entry.{Entry}
use Rattle.lc_world.specs.declared.entry.RecordedReply.TheVariants.{Hidden, Reply}
use Rattle.page_relay.specs.Exchanger.{ExchangerState, new_exchanger}
use Rattle.page_relay.specs.Fits.{RelaysHonestly}
use Rattle.page_relay.specs.Kept.{Kept}
use Rattle.page_relay.specs.Recorded.{HasRelayed}

-- The link below with the replies that are kept of it, and that link as it was when the relay was made. The exchanges that were asked for with
-- how each ended, how many there were, and whether both counts are exact.
pub record RelayState (L : Type 0) : Type 0 where
  pub exchanger : ExchangerState L
  pub made : L
  pub recorded : List Entry
  pub relayed : ℕ
  pub exact : Bool

-- a relay over a link by which nothing was asked yet
abbrev pub new_relay : {L : Type 0} → L → BaseParts → ℕ → RelayState L
new_relay inner base entries = record { exchanger = new_exchanger inner base entries; made = inner; recorded = []; relayed = 0; exact = true }

-- The transcript of a relay begins with its base and the number of replies that it may keep. What the link below had recorded when the relay was
-- made comes next, if that link records any, after the number of these exchanges. This says where the relay's own exchanges begin.
abbrev pub beginning_of : BaseParts → ℕ → Option (List Entry) → List Entry
beginning_of base entries None = entry_of base.authority base.path (Reply base.text) ∷ entry_of [] (entries ∷ []) Hidden ∷ []
beginning_of base entries (Some before) = entry_of base.authority base.path (Reply base.text) ∷ entry_of [] (entries ∷ length before ∷ []) Hidden ∷ before

-- the transcript of a relay with these exchanges of its own
abbrev pub transcript_of : BaseParts → ℕ → Option (List Entry) → List Entry → List Entry
transcript_of base entries made own = beginning_of base entries made ++ own

-- What is promised of a relay with this transcript that keeps these replies, by what is promised of the link below. It has the side and the count
-- of that link. It is honest where that link is and what it keeps agrees with the side.
abbrev pub relayed_seen : LinkSeen → List Entry → List Kept → LinkSeen
relayed_seen below transcript kept = record {
  side = below.side;
  recorded = Some transcript;
  honest = λ base. RelaysHonestly (below.honest base) below.side kept;
  quiet = below.quiet;
  clear = below.clear;
  still = below.still;
  faults = below.faults;
}

-- the transcript of a relay, by what is promised of links like the one below
abbrev pub transcript_in : {L : Type 0} → (L → LinkSeen) → RelayState L → List Entry
transcript_in seen relay = transcript_of relay.exchanger.base relay.exchanger.memory.entries (seen relay.made).recorded relay.recorded

-- what is promised of a relay, by what is promised of links like the one below
abbrev pub relay_seen : {L : Type 0} → (L → LinkSeen) → RelayState L → LinkSeen
relay_seen seen relay = relayed_seen (seen relay.exchanger.inner) (transcript_in seen relay) relay.exchanger.memory.kept

-- what holds of every relay, by what is promised of links like the one below
abbrev pub HasRelayedOf : {L : Type 0} → (L → LinkSeen) → RelayState L → Type 0
HasRelayedOf seen relay =
    HasRelayed relay.exchanger.base relay.exchanger.memory.entries (seen relay.made).recorded (seen relay.exchanger.inner).recorded relay.exchanger.memory.kept
    relay.recorded relay.relayed relay.exchanger.forwarded relay.exact
