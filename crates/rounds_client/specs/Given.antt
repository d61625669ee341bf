-- What a client was given, and how an exchange adds to it.
use Rattle.std.specs.Prelude.{◌≡◌, ℕ, true, ◌⊎◌, List, [], ◌∷◌, ◌++◌, Option, Some, None, Result, Ok, Err}
use Rattle.std.specs.List.{flat_map}
use Rattle.lc_model.specs.Stop.{HasStop}
use Rattle.lc_model.specs.declared.connection.Connection.{Connection}
use Rattle.lc_model.specs.declared.doc.StopsDoc.{StopsDoc}
use Rattle.lc_model.specs.declared.page.PageName.{PageName}
use Rattle.lc_model.specs.declared.query.Query.{Query}
use Rattle.connection_uri.specs.Base.{BaseParts}
use Rattle.page_json.specs.Valid.{IsValidPage}
use Rattle.page_json.specs.declared.page.Page.{Page}
use Rattle.lc_world.specs.Link.{LinkSeen}
use Rattle.page_client.specs.Client.{AfterStops, TakesPage, shown}
use Rattle.page_client.specs.Page.{IsPageReply, advances}
use Rattle.page_client.specs.Shown.{ended, want_of}
use Rattle.page_client.specs.Stops.{IsStopsReply}
use Rattle.page_client.specs.declared.client.Client.{Client}
use Rattle.page_client.specs.declared.fault.PeerFault.{PeerFault}
use Rattle.page_client.specs.declared.outcome.Outcome.TheVariants.{LinkFault, PeerWrong}
use Rattle.page_client.specs.declared.want.Want.TheVariants as wants
use Rattle.convoy.specs.Exchange.{Got, IsExchange}
use Rattle.convoy.specs.Steps.{AsksGate}
use Rattle.rounds_client.specs.declared.given.Given.{Given}

-- the document and the pages, as lists are
pub record Was : Type 0 where
  pub doc : Option StopsDoc
  pub pages : List Page

-- what was given so far
abbrev pub was_given : Given → Was
was_given g = record { doc = g.doc; pages = g.pages.items }

-- the connections of pages, page by page
abbrev pub connections_of_pages : List Page → List Connection
connections_of_pages pages = flat_map (λ (p : Page). p.list) pages

-- a page that was asked for by this name: it has the name, is valid, and goes on
pub record MayBeKept (name : PageName) (page : Page) : Type 0 where
  pub named : page.name ≡ name
  pub valid : IsValidPage page
  pub on : advances page ≡ true

-- a document that has both ends of the question is kept
abbrev pub KeepsDoc : Query → Result StopsDoc PeerFault → Option StopsDoc → Type 0
KeepsDoc query (Ok said) doc = HasStop said.stops query.from → HasStop said.stops query.to → doc ≡ Some said
KeepsDoc query (Err fault) doc = Unit {0}

-- the reply with the stops document was taken, and the document is kept
pub record TakesDoc (old new : Client) (reply : List ℕ) (given now : Was) : Type 0 where
  pub said : Result StopsDoc PeerFault
  pub says : IsStopsReply reply said
  pub after : AfterStops old reply said new
  pub doc : KeepsDoc (shown old).query said now.doc
  pub pages : now.pages ≡ given.pages

-- the page that was read is taken and kept, or the first test that the reply fails ends the client
abbrev pub AfterReply : PageName → Client → Client → List ℕ → Was → Was → Result Page PeerFault → Type 0
AfterReply name old new reply given now (Ok page) = TakesPage old page new × MayBeKept name page × (now.pages ≡ given.pages ++ page ∷ []) × (now.doc ≡ given.doc)
AfterReply name old new reply given now (Err fault) = (shown new ≡ ended (PeerWrong reply fault) (shown old)) × (now ≡ given)

-- the reply with a page was taken
pub record ReadsReply (base : BaseParts) (name : PageName) (old new : Client) (reply : List ℕ) (given now : Was) : Type 0 where
  pub said : Result Page PeerFault
  pub says : IsPageReply base name reply said
  pub after : AfterReply name old new reply given now said

-- what was got is taken so; where there is no reply the client ended with both counts of the link, and nothing is kept
abbrev pub TakesGot : Client → Client → ℕ → ℕ → Was → Was → (List ℕ → Type 0) → Got → Type 0
TakesGot old new before after given now takes (Some reply) = takes reply
TakesGot old new before after given now takes None = (shown new ≡ ended (LinkFault before after) (shown old)) × (now ≡ given)

-- the time gate was asked, and nothing is kept of its reply
abbrev pub GivesGate : BaseParts → Client → Client → LinkSeen → LinkSeen → Was → Was → Type 0
GivesGate base old new before after given now = AsksGate base old new before after × (now ≡ given)

-- the stops document was asked for, and is kept
pub record GivesStops (base : BaseParts) (old new : Client) (before after : LinkSeen) (given now : Was) : Type 0 where
  pub wants : want_of (shown old).phase ≡ wants.Stops
  pub got : Got
  pub exchange : IsExchange base (shown old) before after got
  pub takes : TakesGot old new before.faults after.faults given now (λ reply. TakesDoc old new reply given now) got

-- a page was asked for, and is kept
pub record GivesPage (base : BaseParts) (old new : Client) (before after : LinkSeen) (given now : Was) : Type 0 where
  pub name : PageName
  pub wants : want_of (shown old).phase ≡ wants.Page name
  pub got : Got
  pub exchange : IsExchange base (shown old) before after got
  pub takes : TakesGot old new before.faults after.faults given now (λ reply. ReadsReply base name old new reply given now) got

-- one exchange was made for the client, and what it was given is kept
abbrev pub Gives : BaseParts → Client → Client → LinkSeen → LinkSeen → Was → Was → Type 0
Gives base old new before after given now =
    GivesGate base old new before after given now ⊎ GivesStops base old new before after given now ⊎ GivesPage base old new before after given now
