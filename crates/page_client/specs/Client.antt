-- A client: what it shows, and what it stands for.
use Rattle.std.specs.Prelude.{◌≡◌, ℕ, ◌⊎◌, List, [], ◌++◌, Option, Some, None, Result, Ok, Err}
use Rattle.lc_model.specs.Stop.{HasStop}
use Rattle.lc_model.specs.declared.connection.Connection.{Connection}
use Rattle.lc_model.specs.declared.doc.StopsDoc.{StopsDoc}
use Rattle.lc_model.specs.declared.page.PageName.{PageName}
use Rattle.csa_scan.specs.declared.scan.Scan.{Scan}
use Rattle.page_json.specs.declared.page.Page.{Page}
use Rattle.page_client.specs.Course.{Follows, HasScanned}
use Rattle.page_client.specs.Shown.{Shown, after_stops, answered, ended, onward, wrong_gate}
use Rattle.page_client.specs.declared.client.Client.{Client}
use Rattle.page_client.specs.declared.fault.PeerFault.{PeerFault}
use Rattle.page_client.specs.declared.fault.QueryFault.TheVariants.{UnknownFrom, UnknownTo}
use Rattle.page_client.specs.declared.outcome.Outcome.{Outcome}
use Rattle.page_client.specs.declared.outcome.Outcome.TheVariants.{PeerWrong, Refused}
use Rattle.page_client.specs.declared.phase.Phase.TheVariants as phases
use Rattle.page_client.specs.declared.step.Step.{Step}
use Rattle.page_client.specs.declared.step.Step.TheVariants.{Last, Next}

-- what a client shows
abbrev pub shown : Client → Shown
shown c = record { query = c.query; phase = c.phase; version = c.version; gate = c.gate; outcome = c.outcome }

-- The client reads pages: it took the stops document and, page by page, these connections, and wants the page after them.
pub record StandsFor (client : Client) (doc : StopsDoc) (taken : List Connection) : Type 0 where
  pub scan : Scan
  pub has : client.scan ≡ Some scan
  pub name : PageName
  pub wants : client.phase ≡ phases.Page name
  pub scanned : HasScanned client.query doc taken name scan

-- After the stops document. It lacks the stop where the question begins, or the one where it ends, or the first page is wanted
-- and nothing is taken yet.
abbrev pub AfterDoc : Client → StopsDoc → Client → Type 0
AfterDoc old doc new =
    ((HasStop doc.stops old.query.from → ⊥) × (shown new ≡ ended (Refused UnknownFrom) (shown old)))
    ⊎ (HasStop doc.stops old.query.from × (HasStop doc.stops old.query.to → ⊥) × (shown new ≡ ended (Refused UnknownTo) (shown old)))
    ⊎ (HasStop doc.stops old.query.from × HasStop doc.stops old.query.to × (shown new ≡ after_stops (shown old)) × StandsFor new doc [])

-- after its reply, which may fail a test
abbrev pub AfterStops : Client → List ℕ → Result StopsDoc PeerFault → Client → Type 0
AfterStops old reply (Err fault) new = shown new ≡ ended (PeerWrong reply fault) (shown old)
AfterStops old reply (Ok doc) new = AfterDoc old doc new

-- what a step leaves: the next page is wanted, or the question is answered
abbrev pub Leaves : Shown → StopsDoc → List Connection → Step → Client → Type 0
Leaves old doc taken (Next next) new = (shown new ≡ onward next old) × StandsFor new doc taken
Leaves old doc taken (Last journey) new = shown new ≡ ended (answered journey) old

-- whatever the client stood for, it goes on by the page's connections after it
abbrev pub GoesOnBy : Client → Page → Client → Type 0
GoesOnBy old page new =
    (doc : StopsDoc) (taken : List Connection) → StandsFor old doc taken →
    (step : Step) × Follows old.query doc (taken ++ page.list) page step × Leaves (shown old) doc (taken ++ page.list) step new

-- after a page: the time gate was wrong to send there, or the page is taken
abbrev pub AfterPage : Client → Page → Option Outcome → Client → Type 0
AfterPage old page (Some outcome) new = shown new ≡ ended outcome (shown old)
AfterPage old page None new = GoesOnBy old page new

-- what the client is after a page
abbrev pub TakesPage : Client → Page → Client → Type 0
TakesPage old page new = AfterPage old page (wrong_gate page old.query.leave old.gate) new
