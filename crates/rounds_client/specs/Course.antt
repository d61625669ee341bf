-- A client alone, exchange after exchange, and what it has read.
use Rattle.std.specs.Prelude.{◌≡◌, ℕ, List, [], ◌∷◌, Option, Some, None, length}
use Rattle.lc_model.specs.Connection.{InDepartureOrder}
use Rattle.lc_model.specs.Stop.{HasStop}
use Rattle.lc_model.specs.declared.doc.StopsDoc.{StopsDoc}
use Rattle.lc_model.specs.declared.journey.Journey.{Journey}
use Rattle.lc_model.specs.declared.query.Query.{Query}
use Rattle.csa_scan.specs.StandsFor.{IsBestChain}
use Rattle.connection_uri.specs.Base.{BaseParts}
use Rattle.lc_world.specs.Link.{LinkSeen}
use Rattle.page_client.specs.Client.{StandsFor, shown}
use Rattle.page_client.specs.Shown.{HasHorizon}
use Rattle.page_client.specs.declared.client.Client.{Client}
use Rattle.page_client.specs.declared.outcome.Outcome.{Outcome}
use Rattle.page_client.specs.declared.outcome.Outcome.TheVariants as outcomes
use Rattle.page_client.specs.declared.phase.Phase.{Phase}
use Rattle.page_client.specs.declared.phase.Phase.TheVariants as phases
use Rattle.change_rounds.specs.Fewest.{IsFewestChain}
use Rattle.rounds_client.specs.Given.{Gives, Was, connections_of_pages}

-- a client, what it was given, and its link
pub record Point (X : Type 0) : Type 0 where
  pub client : Client
  pub given : Was
  pub link : X

-- the exchanges that led from one point to another: before each of them the client was there, the latest first
abbrev pub LeadsTo : {X : Type 0} → (X → LinkSeen) → BaseParts → List (Point X) → Point X → Point X → Type 0
LeadsTo seen base [] start end = end ≡ start
LeadsTo seen base (last ∷ earlier) start end =
    Gives base last.client end.client (seen last.link) (seen end.link) last.given end.given × LeadsTo seen base earlier start last

-- the question may be asked, and nothing is read
pub record IsUnread (query : Query) (given : Was) : Type 0 where
  pub horizon : HasHorizon query
  pub pages : given.pages ≡ []

-- The client reads pages. It took this document, which has both ends of the question, and these pages.
pub record IsReading (client : Client) (given : Was) : Type 0 where
  pub horizon : HasHorizon client.query
  pub doc : StopsDoc
  pub has : given.doc ≡ Some doc
  pub from : HasStop doc.stops client.query.from
  pub to : HasStop doc.stops client.query.to
  pub stands : StandsFor client doc (connections_of_pages given.pages)

-- a journey was found: it is a best one over the document and the pages
pub record HasFound (query : Query) (given : Was) (journey : Journey) : Type 0 where
  pub horizon : HasHorizon query
  pub doc : StopsDoc
  pub has : given.doc ≡ Some doc
  pub from : HasStop doc.stops query.from
  pub to : HasStop doc.stops query.to
  pub in_order : InDepartureOrder (connections_of_pages given.pages)
  pub is_best : IsBestChain query doc (connections_of_pages given.pages) (Some journey)

-- what an outcome says of what was given
abbrev pub HasRead : Query → Was → Option Outcome → Type 0
HasRead query given None = Unit {0}
HasRead query given (Some (outcomes.Found journey)) = HasFound query given journey
HasRead query given (Some outcomes.NoJourney) = Unit {0}
HasRead query given (Some (outcomes.Refused fault)) = Unit {0}
HasRead query given (Some (outcomes.LinkFault before after)) = Unit {0}
HasRead query given (Some (outcomes.PeerWrong reply fault)) = Unit {0}

-- what a client of the question was given, in each phase
abbrev pub ReadsAt : Client → Was → Query → Phase → Option Outcome → Type 0
ReadsAt client given query phases.Gate outcome = IsUnread query given
ReadsAt client given query (phases.Stops first) outcome = IsUnread query given
ReadsAt client given query (phases.Page name) outcome = IsReading client given
ReadsAt client given query phases.Finished outcome = HasRead query given outcome

-- what the client was given
abbrev pub Reads : Client → Was → Type 0
Reads client given = ReadsAt client given client.query client.phase client.outcome

-- the client went on from one point to another by so many exchanges, and has its outcome there
pub record HasEnded {X : Type 0} (seen : X → LinkSeen) (base : BaseParts) (old : Client) (given : Was) (before : X) (new : Client) (now : Was) (after : X) (exchanges : ℕ) : Type 0 where
  pub points : List (Point X)
  pub leads : LeadsTo seen base points (record { client = old; given = given; link = before }) (record { client = new; given = now; link = after })
  pub count : exchanges ≡ length points
  pub query : (shown new).query ≡ (shown old).query
  pub outcome : Outcome
  pub ended : (shown new).outcome ≡ Some outcome

-- the answer of the fewest rides in place of a best journey, over what was given; every other outcome stays
abbrev pub AnswersFewest : Query → Was → Outcome → Outcome → Type 0
AnswersFewest query given (outcomes.Found journey) new =
    (doc : StopsDoc) × (fewest : Journey) × (given.doc ≡ Some doc) × (new ≡ outcomes.Found fewest) × IsFewestChain query doc (connections_of_pages given.pages) (Some fewest)
AnswersFewest query given outcomes.NoJourney new = new ≡ outcomes.NoJourney
AnswersFewest query given (outcomes.Refused fault) new = new ≡ outcomes.Refused fault
AnswersFewest query given (outcomes.LinkFault before after) new = new ≡ outcomes.LinkFault before after
AnswersFewest query given (outcomes.PeerWrong reply fault) new = new ≡ outcomes.PeerWrong reply fault
