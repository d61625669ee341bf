-- The pages that a client takes along the previous links, one after the other, and what it does after each.
use Rattle.std.specs.Prelude.{◌≡◌, ◌⊎◌, ℕ, ◌<◌, true, List, [], ◌∷◌, ◌++◌, Option, Some, None, Result, Ok, Err}
use Rattle.lc_model.specs.Connection.{InDepartureOrder}
use Rattle.lc_model.specs.declared.connection.Connection.{Connection}
use Rattle.lc_model.specs.declared.doc.StopsDoc.{StopsDoc}
use Rattle.lc_model.specs.declared.journey.Journey.{Journey}
use Rattle.lc_model.specs.declared.page.PageName.{PageName}
use Rattle.lc_model.specs.declared.query.Query.{Query}
use Rattle.connection_uri.specs.Base.{BaseParts}
use Rattle.connection_uri.specs.Page.{page_target_of}
use Rattle.page_json.specs.Valid.{IsValidPage}
use Rattle.page_json.specs.declared.page.Page.{Page}
use Rattle.page_client.specs.Page.{IsPageReply, advances}
use Rattle.page_client.specs.Shown.{answered}
use Rattle.page_client.specs.declared.fault.PeerFault.{PeerFault}
use Rattle.page_client.specs.declared.outcome.Outcome.{Outcome}
use Rattle.page_client.specs.declared.outcome.Outcome.TheVariants.{LinkFault, PeerWrong}
use Rattle.lc_world.specs.Link.{LinkSeen}
use Rattle.back_scan.specs.Forward.{forward_query}
use Rattle.back_scan.specs.Latest.{IsListLatest}
use Rattle.back_scan.specs.Over.{IsOver}
use Rattle.back_scan.specs.StandsFor.{IsLatestChain, StandsFor}
use Rattle.back_scan.specs.declared.arrive_query.ArriveQuery.{ArriveQuery}
use Rattle.back_scan.specs.declared.scan.BackScan.{BackScan}
use Rattle.convoy.specs.Exchange.{Got}
use Rattle.back_client.specs.Exchange.{IsExchange}
use Rattle.back_client.specs.Wrong.{wrong_of}
use Rattle.back_client.specs.declared.page.Place.{Place}
use Rattle.back_client.specs.declared.page.Place.TheVariants.{After}
use Rattle.back_client.specs.declared.step.Sequel.{Sequel}
use Rattle.back_client.specs.declared.step.Sequel.TheVariants.{Ends, Goes}

-- No page before the one of this name can be better. The name is at or before the latest departure of a chain of what was
-- taken. Where there is no chain, it is at or before the first second of the horizon.
pub record IsOverAt (query : Query) (doc : StopsDoc) (taken : List Connection) (name : ℕ) : Type 0 where
  pub latest : Option ℕ
  pub is_latest : IsListLatest query doc taken latest
  pub over : IsOver query latest name

-- there is no previous page, or none before this one can be better; the answer is a latest chain of what was taken, or that there is none
pub record Answers (query : Query) (doc : StopsDoc) (taken : List Connection) (page : Page) (outcome : Outcome) : Type 0 where
  pub last : (page.previous ≡ None) ⊎ IsOverAt query doc taken page.name.departs
  pub journey : Option Journey
  pub is_latest : IsLatestChain query doc taken journey
  pub is : outcome ≡ answered journey

-- there is a previous page, and one before this one could be better
pub record LeadsOn (query : Query) (doc : StopsDoc) (taken : List Connection) (page : Page) (previous : PageName) : Type 0 where
  pub is_previous : page.previous ≡ Some previous
  pub not_over : IsOverAt query doc taken page.name.departs → ⊥

-- what comes after the page, where these were taken, the page's connections too
abbrev pub Follows : Query → StopsDoc → List Connection → Page → Sequel → Type 0
Follows query doc taken page (Goes previous) = LeadsOn query doc taken page previous
Follows query doc taken page (Ends outcome) = Answers query doc taken page outcome

-- where it goes on, it goes on to the previous page
abbrev pub GoesTo : Option PageName → Sequel → Type 0
GoesTo previous (Goes name) = previous ≡ Some name
GoesTo previous (Ends outcome) = Unit {0}

-- where it goes on, it goes on to an earlier page
abbrev pub GoesBelow : ℕ → Sequel → Type 0
GoesBelow departs (Goes name) = name.departs < departs
GoesBelow departs (Ends outcome) = Unit {0}

-- Whatever a scan stood for, it goes back by the page's connections where they come before it in departure order, and the sequel
-- follows. What was taken has a latest departure, or no chain.
abbrev pub TakesBack : BackScan → BackScan → Page → Sequel → Type 0
TakesBack old new page sequel =
    (query : Query) (doc : StopsDoc) (taken : List Connection) → InDepartureOrder (page.list ++ taken) → StandsFor old query doc taken →
    StandsFor new query doc (page.list ++ taken) × Follows query doc (page.list ++ taken) page sequel
    × ((latest : Option ℕ) × IsListLatest query doc (page.list ++ taken) latest)

-- a page that passes the tests of its reply: it is valid, the one that was asked for, and advances
pub record IsRead (name : PageName) (page : Page) : Type 0 where
  pub valid : IsValidPage page
  pub named : page.name ≡ name
  pub on : advances page ≡ true

-- what a page leads to: the outcome by the first test that it fails, or what follows
abbrev pub Leads : Option Outcome → BackScan → BackScan → Page → Sequel → Type 0
Leads (Some outcome) old new page sequel = sequel ≡ Ends outcome
Leads None old new page sequel = TakesBack old new page sequel

-- what is said by the reply with a page
abbrev pub AfterSaid : ℕ → Place → PageName → List ℕ → BackScan → BackScan → Result Page PeerFault → Sequel → Type 0
AfterSaid arrive place name reply old new (Ok page) sequel = IsRead name page × Leads (wrong_of arrive place page reply) old new page sequel
AfterSaid arrive place name reply old new (Err fault) sequel = sequel ≡ Ends (PeerWrong reply fault)

-- what is said by a reply leads to the sequel
pub record TakesReply (base : BaseParts) (arrive : ℕ) (place : Place) (name : PageName) (reply : List ℕ) (old new : BackScan) (sequel : Sequel) : Type 0 where
  pub said : Result Page PeerFault
  pub says : IsPageReply base name reply said
  pub after : AfterSaid arrive place name reply old new said sequel

-- what the exchange leads to
abbrev pub AfterGot : BaseParts → ℕ → Place → PageName → BackScan → BackScan → ℕ → ℕ → Sequel → Got → Type 0
AfterGot base arrive place name old new before after sequel (Some reply) = TakesReply base arrive place name reply old new sequel
AfterGot base arrive place name old new before after sequel None = sequel ≡ Ends (LinkFault before after)

-- the page was asked for once, and the sequel is what the reply leads to
pub record IsTurn (base : BaseParts) (arrive : ℕ) (place : Place) (name : PageName) (old new : BackScan) (before after : LinkSeen) (sequel : Sequel) : Type 0 where
  pub got : Got
  pub exchange : IsExchange base (page_target_of base name) None before after got
  pub leads : AfterGot base arrive place name old new before.faults after.faults sequel got

-- a page that was taken and led on: the reply that says it, its previous page, and the link after the exchange
pub record Taken (X : Type 0) : Type 0 where
  pub reply : List ℕ
  pub page : Page
  pub previous : PageName
  pub link : X

-- the page of this name was asked for and taken, after these connections, and led on
pub record LeadsBack {X : Type 0} (seen : X → LinkSeen) (base : BaseParts) (asked : ArriveQuery) (doc : StopsDoc) (place : Place) (taken : List Connection)
    (name : PageName) (link : X) (turn : Taken X) : Type 0 where
  pub exchange : IsExchange base (page_target_of base name) None (seen link) (seen turn.link) (Some turn.reply)
  pub says : IsPageReply base name turn.reply (Ok turn.page)
  pub read : IsRead name turn.page
  pub right : wrong_of asked.arrive place turn.page turn.reply ≡ None
  pub leads : LeadsOn (forward_query asked) doc (turn.page.list ++ taken) turn.page turn.previous

-- a page ends the walk: by the first test that it fails, or with the answer
abbrev pub EndsByPage : Option Outcome → Query → StopsDoc → List Connection → Page → Outcome → Type 0
EndsByPage (Some wrong) query doc taken page outcome = outcome ≡ wrong
EndsByPage None query doc taken page outcome = Answers query doc (page.list ++ taken) page outcome

-- a reply ends the walk: by the first test that it fails, or by its page
abbrev pub EndsBySaid : ArriveQuery → StopsDoc → Place → List Connection → PageName → List ℕ → Result Page PeerFault → Outcome → Type 0
EndsBySaid asked doc place taken name reply (Ok page) outcome =
    IsRead name page × EndsByPage (wrong_of asked.arrive place page reply) (forward_query asked) doc taken page outcome
EndsBySaid asked doc place taken name reply (Err fault) outcome = outcome ≡ PeerWrong reply fault

-- the exchange ends the walk: it failed, or its reply ends it
abbrev pub EndsByGot : BaseParts → ArriveQuery → StopsDoc → Place → List Connection → PageName → ℕ → ℕ → Got → Outcome → Type 0
EndsByGot base asked doc place taken name before after (Some reply) outcome =
    (said : Result Page PeerFault) × IsPageReply base name reply said × EndsBySaid asked doc place taken name reply said outcome
EndsByGot base asked doc place taken name before after None outcome = outcome ≡ LinkFault before after

-- the page of this name was asked for, and the exchange ended the walk
pub record EndsAt {X : Type 0} (seen : X → LinkSeen) (base : BaseParts) (asked : ArriveQuery) (doc : StopsDoc) (place : Place) (taken : List Connection)
    (name : PageName) (link last : X) (outcome : Outcome) : Type 0 where
  pub got : Got
  pub exchange : IsExchange base (page_target_of base name) None (seen link) (seen last) got
  pub ends : EndsByGot base asked doc place taken name (seen link).faults (seen last).faults got outcome

-- Pages were taken, one after the other, from the one of this name on, after these connections. Each led on to its previous
-- page. The exchange after them ended the walk.
abbrev pub WalksBack : {X : Type 0} → (X → LinkSeen) → BaseParts → ArriveQuery → StopsDoc → Place → List Connection → PageName → X → List (Taken X) → X → Outcome → Type 0
WalksBack seen base asked doc place taken name link [] last outcome = EndsAt seen base asked doc place taken name link last outcome
WalksBack seen base asked doc place taken name link (turn ∷ rest) last outcome =
    LeadsBack seen base asked doc place taken name link turn
    × WalksBack seen base asked doc (After name.departs) (turn.page.list ++ taken) turn.previous turn.link rest last outcome
