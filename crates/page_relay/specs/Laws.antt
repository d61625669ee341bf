-- The laws of relays. X is the type of the link below, and `seen` what is promised of it.
use Rattle.std.specs.Prelude.{◌≡◌, ◌⊎◌, ◌<◌, ◌-◌, ◌^◌, ℕ, true, min, List, [], ◌∷◌, length, Option, Some}
use Rattle.connection_uri.specs.Base.{BaseParts, IsBase}
use Rattle.http_text.specs.Request.{IsWholeRequest}
use Rattle.http_text.specs.RequestText.{SaysGet}
use Rattle.http_text.specs.declared.request.Request.{Request}
use Rattle.connection_uri.specs.Page.{gate_target_of, page_target_of, stops_target_of}
use Rattle.lc_model.specs.declared.page.PageName.{PageName}
use Rattle.lc_world.specs.GoneOn.{IsLeftByGets, RecordsMore}
use Rattle.lc_world.specs.Link.{IsHonestWith, IsQuietWith, LinkSeen}
use Rattle.lc_world.specs.declared.entry.Entry.{Entry}
use Rattle.lc_world.specs.declared.entry.RecordedReply.TheVariants.{Hidden}
use Rattle.lc_world.specs.Sides.Reply.{HasReply}
use Rattle.lc_world.specs.Sides.Response.{IsDocument}
use Rattle.lc_world.specs.Sides.Side.{IsLater, IsValidSide, Side}
use Rattle.lc_world.specs.declared.sides.response.Response.{Response}
use Rattle.page_relay.specs.Fits.{RelayFits}
use Rattle.page_relay.specs.HandedOn.{AreRelayed}
use Rattle.page_relay.specs.Keeping.{IsKeepable, IsToKeep}
use Rattle.page_relay.specs.Kept.{Kept}
use Rattle.page_relay.specs.Relay.{HasRelayedOf, RelayState, new_relay, relay_seen, transcript_of}
use Rattle.page_relay.specs.Recorded.{HasRelayed, IsRecorded}

-- these were recorded of one exchange: the same request to the same authority, with the same end, unless one of them hides that
pub record IsAlike (a b : Entry) : Type 0 where
  pub authority_is : a.authority ≡ b.authority
  pub request_is : a.request ≡ b.request
  pub end_is : (a.reply ≡ Hidden) ⊎ ((b.reply ≡ Hidden) ⊎ (a.reply ≡ b.reply))

-- one after the other
abbrev pub AreAlike : List Entry → List Entry → Type 0
AreAlike [] [] = Unit {0}
AreAlike [] (b ∷ more) = ⊥
AreAlike (a ∷ more) [] = ⊥
AreAlike (a ∷ more) (b ∷ others) = IsAlike a b × AreAlike more others

-- The same is kept, and the same exchanges were handed on, in one order, as far as the link below does not hide how they ended.
pub record AreOne (a b : List Kept) (handed_on other : List Entry) : Type 0 where
  pub kept_is : a ≡ b
  pub alike : AreAlike handed_on other
  pub count_is : length handed_on ≡ length other

-- after the same exchanges
abbrev pub OneMemory : Type 0
OneMemory =
    (base : BaseParts) (entries : ℕ) (kept : List Kept) (own : List Entry) (a b : List Kept) (handed_on other : List Entry)
    → AreRelayed base entries kept own a handed_on → AreRelayed base entries kept own b other → AreOne a b handed_on other

-- what is kept agrees with every later side
abbrev pub FitsLater : Type 0
FitsLater = (kept : List Kept) (before after : Side) → IsValidSide after → IsLater before after → RelayFits kept before → RelayFits kept after

-- of a side's replies only documents that never change are kept, whatever the base
abbrev pub OnlyDocuments : Type 0
OnlyDocuments =
    (side : Side) (base : BaseParts) (request reply : List ℕ) (response : Response) → IsToKeep base request reply → HasReply side request response reply → IsDocument response

-- a new relay is honest under every base under which the link below is
abbrev pub NewIsHonest : {X : Type 0} → (X → LinkSeen) → Type 0
NewIsHonest {X} seen =
    (inner : X) (base under : BaseParts) (side : Side) (entries : ℕ) → IsHonestWith (seen inner) under side
    → IsHonestWith (relay_seen seen (new_relay inner base entries)) under side

-- and quiet where that one is
abbrev pub NewIsQuiet : {X : Type 0} → (X → LinkSeen) → Type 0
NewIsQuiet {X} seen =
    (inner : X) (base under : BaseParts) (side : Side) (entries : ℕ) → IsQuietWith (seen inner) under side
    → IsQuietWith (relay_seen seen (new_relay inner base entries)) under side

-- A GET of a page's target, of that of the stops document and of that of the time gate under a base: to the first two replies are kept, and
-- to the last one none.
pub record KeepsOfClients (base : BaseParts) (bytes : List ℕ) (known : Option ℕ) (said : Request) : Type 0 where
  pub page : (name : PageName) → name.version < 253_402_128_000 → name.departs < 253_402_128_000 → SaysGet (page_target_of base name) known bytes said → IsKeepable base bytes
  pub stops : SaysGet (stops_target_of base) known bytes said → IsKeepable base bytes
  pub gate : (departs : ℕ) → departs < 253_402_128_000 → SaysGet (gate_target_of base departs) known bytes said → IsKeepable base bytes → ⊥

-- under every base
abbrev pub ClientsAreKept : Type 0
ClientsAreKept = (base : BaseParts) (bytes : List ℕ) (known : Option ℕ) (said : Request) → IsBase base → IsWholeRequest bytes said → KeepsOfClients base bytes known said

-- A relay that was made over the link, under this base and with so many entries, has these exchanges of its own. What holds of it is said over
-- the link as it was when the relay was made.
pub record IsSince {X : Type 0} (seen : X → LinkSeen) (inner : X) (base : BaseParts) (entries : ℕ) (after : RelayState X) (own : List Entry) : Type 0 where
  pub own_is : after.recorded ≡ own
  pub recorded_is : (relay_seen seen after).recorded ≡ Some (transcript_of base entries (seen inner).recorded own)
  pub has : HasRelayed base entries (seen inner).recorded (seen after.exchanger.inner).recorded after.exchanger.memory.kept own after.relayed after.exchanger.forwarded after.exact

-- What is promised of every link by its calls says so of a relay: that no exchange is lost of those that were recorded. So it holds after all calls
-- by clients that know no more of it.
abbrev pub CountsAreSince : {X : Type 0} → (X → LinkSeen) → Type 0
CountsAreSince {X} seen =
    (inner : X) (base : BaseParts) (entries : ℕ) (after : RelayState X) → HasRelayedOf seen after
    → (more : RecordsMore (relay_seen seen (new_relay inner base entries)).recorded (relay_seen seen after).recorded) → IsSince seen inner base entries after more.more

-- what GETs leave of a relay they leave of the link below
abbrev pub LeavesBelow : {X : Type 0} → (X → LinkSeen) → Type 0
LeavesBelow {X} seen =
    (inner : X) (base : BaseParts) (entries : ℕ) (after : RelayState X) → HasRelayedOf seen after
    → IsLeftByGets (relay_seen seen (new_relay inner base entries)) (relay_seen seen after) → IsLeftByGets (seen inner) (seen after.exchanger.inner)

-- the relays have one base, one number of entries, one link below as it was, and one list of exchanges of their own
pub record AreOneRelay (base other_base : BaseParts) (entries other_entries : ℕ) (made other_made : Option (List Entry)) (own other_own : List Entry) : Type 0 where
  pub base_is : other_base ≡ base
  pub entries_is : other_entries ≡ entries
  pub made_is : other_made ≡ made
  pub own_is : other_own ≡ own

-- a transcript is that of one relay
abbrev pub OneTranscript : Type 0
OneTranscript =
    (base other_base : BaseParts) (entries other_entries : ℕ) (made other_made : Option (List Entry)) (own other_own : List Entry)
    → transcript_of other_base other_entries other_made other_own ≡ transcript_of base entries made own
    → AreOneRelay base other_base entries other_entries made other_made own other_own

-- Exact counts over a link that records exchanges are two lengths: that of the relay's own exchanges, and that by which the list of the link below
-- has grown.
pub record AreLengths (made now own : List Entry) (relayed forwarded : ℕ) : Type 0 where
  pub relayed_is : relayed ≡ min (length own) (2 ^ 64 - 1)
  pub forwarded_is : forwarded ≡ min (length now - length made) (2 ^ 64 - 1)

abbrev pub CountsAreLengths : Type 0
CountsAreLengths =
    (made now : List Entry) (kept : List Kept) (own : List Entry) (relayed forwarded : ℕ) → IsRecorded (Some made) (Some now) kept own relayed forwarded true → AreLengths made now own relayed forwarded
