-- The steps of a client: it asks the time gate, the stops document or a page, or takes a cached page.
use Rattle.std.specs.Prelude.{◌≡◌, ℕ, true, ◌≤◌, List, Option, Some, None, Result, Ok, Err}
use Rattle.lc_model.specs.declared.doc.StopsDoc.{StopsDoc}
use Rattle.lc_model.specs.declared.page.PageName.{PageName}
use Rattle.connection_uri.specs.Base.{BaseParts}
use Rattle.page_json.specs.Valid.{IsValidPage}
use Rattle.page_json.specs.declared.page.Page.{Page}
use Rattle.lc_world.specs.Link.{LinkSeen}
use Rattle.page_client.specs.Kept.{Kept, page_named, with_put, with_used}
use Rattle.page_client.specs.Client.{AfterStops, TakesPage, shown}
use Rattle.page_client.specs.Gate.{IsGateReply}
use Rattle.page_client.specs.Page.{IsPageReply, advances}
use Rattle.page_client.specs.Shown.{Shown, StaysOrEnds, after_gate, ended, exchanges_left, want_of, wrong_gate}
use Rattle.page_client.specs.Stops.{IsStopsReply}
use Rattle.page_client.specs.declared.client.Client.{Client}
use Rattle.page_client.specs.declared.fault.PeerFault.{PeerFault}
use Rattle.page_client.specs.declared.outcome.Outcome.{Outcome}
use Rattle.page_client.specs.declared.outcome.Outcome.TheVariants.{LinkFault, PeerWrong}
use Rattle.page_client.specs.declared.want.Want.{Want}
use Rattle.page_client.specs.declared.want.Want.TheVariants as wants
use Rattle.convoy.specs.Exchange.{Got, IsExchange}

-- a client that waits has no outcome, and one that waits for nothing has one
abbrev pub IsDecided : Shown → Type 0
IsDecided s = StaysOrEnds None s.phase s.outcome

-- a page that a client may take: it is valid, and goes on
pub record MayBeTaken (page : Page) : Type 0 where
  pub valid : IsValidPage page
  pub on : advances page ≡ true

-- what may be asked for: the time gate, the stops document, or a page that the cache lacks
abbrev pub MayBeAsked : Want → Kept → Type 0
MayBeAsked wants.Gate kept = Unit {0}
MayBeAsked wants.Stops kept = Unit {0}
MayBeAsked (wants.Page name) kept = page_named kept.pages name ≡ None
MayBeAsked wants.Finished kept = ⊥

-- the question stays, and no more exchanges are left
pub record GoesDown (old new : Shown) : Type 0 where
  pub query : new.query ≡ old.query
  pub left : exchanges_left new ≤ exchanges_left old

-- the client takes a reply so, and ends with both counts of the link where there is none
abbrev pub Takes : Client → Client → ℕ → ℕ → (List ℕ → Type 0) → Got → Type 0
Takes old new before after takes (Some reply) = takes reply
Takes old new before after takes None = shown new ≡ ended (LinkFault before after) (shown old)

-- what is said by the reply of the time gate
pub record TakesGate (base : BaseParts) (old new : Client) (reply : List ℕ) : Type 0 where
  pub said : Result PageName PeerFault
  pub says : IsGateReply base (shown old).query.leave reply said
  pub after : shown new ≡ after_gate reply said (shown old)

-- what is said by the reply with the stops document
pub record TakesStops (old new : Client) (reply : List ℕ) : Type 0 where
  pub said : Result StopsDoc PeerFault
  pub says : IsStopsReply reply said
  pub after : AfterStops old reply said new

-- a page that passes all tests, that of the time gate too, is put in the cache
abbrev pub kept_after : Option Outcome → Kept → Page → Kept
kept_after (Some outcome) kept page = kept
kept_after None kept page = record kept { pages = with_put kept page }

-- the page that was read is taken, or the first test that the reply fails ends the client
abbrev pub AfterPage : Client → Client → List ℕ → Kept → Kept → Result Page PeerFault → Type 0
AfterPage old new reply before after (Ok page) = TakesPage old page new × (after ≡ kept_after (wrong_gate page (shown old).query.leave (shown old).gate) before page)
AfterPage old new reply before after (Err fault) = (shown new ≡ ended (PeerWrong reply fault) (shown old)) × (after ≡ before)

-- what is said by the reply with a page
pub record TakesReply (base : BaseParts) (name : PageName) (old new : Client) (before after : Kept) (reply : List ℕ) : Type 0 where
  pub said : Result Page PeerFault
  pub says : IsPageReply base name reply said
  pub after_page : AfterPage old new reply before after said

-- what is taken where the exchange may have failed, which leaves the cache
abbrev pub TakesAsked : BaseParts → PageName → Client → Client → Kept → Kept → ℕ → ℕ → Got → Type 0
TakesAsked base name old new kept after count now (Some reply) = TakesReply base name old new kept after reply
TakesAsked base name old new kept after count now None = (shown new ≡ ended (LinkFault count now) (shown old)) × (after ≡ kept)

-- the time gate is asked
pub record AsksGate (base : BaseParts) (old new : Client) (before after : LinkSeen) : Type 0 where
  pub wants : want_of (shown old).phase ≡ wants.Gate
  pub got : Got
  pub exchange : IsExchange base (shown old) before after got
  pub takes : Takes old new before.faults after.faults (TakesGate base old new) got

-- the stops document is asked for
pub record AsksStops (base : BaseParts) (old new : Client) (before after : LinkSeen) : Type 0 where
  pub wants : want_of (shown old).phase ≡ wants.Stops
  pub got : Got
  pub exchange : IsExchange base (shown old) before after got
  pub takes : Takes old new before.faults after.faults (TakesStops old new) got

-- a page is asked for, which the cache does not hold
pub record AsksPage (base : BaseParts) (old new : Client) (kept after_kept : Kept) (before after : LinkSeen) : Type 0 where
  pub name : PageName
  pub wants : want_of (shown old).phase ≡ wants.Page name
  pub lacks : page_named kept.pages name ≡ None
  pub got : Got
  pub exchange : IsExchange base (shown old) before after got
  pub takes : TakesAsked base name old new kept after_kept before.faults after.faults got

-- a page is taken that the cache holds
pub record HoldsPage (old new : Client) (kept after_kept : Kept) : Type 0 where
  pub name : PageName
  pub wants : want_of (shown old).phase ≡ wants.Page name
  pub page : Page
  pub holds : page_named kept.pages name ≡ Some page
  pub takes : TakesPage old page new
  pub used : after_kept ≡ record kept { pages = with_used kept.pages name }
