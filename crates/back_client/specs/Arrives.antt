-- How a question for the latest departure is asked, from the time gate to its end.
use Rattle.std.specs.Prelude.{◌≡◌, ◌⊎◌, ℕ, ◌+◌, List, [], Option, Some, None, Result, Ok, Err, length}
use Rattle.lc_model.specs.Stop.{HasStop}
use Rattle.lc_model.specs.declared.doc.StopsDoc.{StopsDoc}
use Rattle.lc_model.specs.declared.page.PageName.{PageName}
use Rattle.connection_uri.specs.Base.{BaseParts}
use Rattle.connection_uri.specs.Page.{gate_target_of, stops_target_of}
use Rattle.page_client.specs.Gate.{IsGateReply}
use Rattle.page_client.specs.Shown.{IsRefusal}
use Rattle.page_client.specs.Stops.{IsStopsReply}
use Rattle.page_client.specs.declared.fault.PeerFault.{PeerFault}
use Rattle.page_client.specs.declared.fault.QueryFault.{QueryFault}
use Rattle.page_client.specs.declared.fault.QueryFault.TheVariants.{UnknownFrom, UnknownTo}
use Rattle.page_client.specs.declared.outcome.Outcome.{Outcome}
use Rattle.page_client.specs.declared.outcome.Outcome.TheVariants.{LinkFault, PeerWrong, Refused}
use Rattle.lc_world.specs.Link.{LinkSeen}
use Rattle.back_scan.specs.Forward.{forward_query}
use Rattle.back_scan.specs.declared.arrive_query.ArriveQuery.{ArriveQuery}
use Rattle.convoy.specs.Exchange.{Got}
use Rattle.back_client.specs.Exchange.{IsExchange}
use Rattle.back_client.specs.Steps.{Taken, WalksBack}
use Rattle.back_client.specs.declared.outcome.ArriveEnd.{ArriveEnd}
use Rattle.back_client.specs.declared.page.Place.TheVariants.{First}

-- an end with this outcome, this version and so many exchanges
abbrev pub ended : Outcome → Option ℕ → ℕ → ArriveEnd
ended outcome version exchanges = record { outcome = outcome; version = version; exchanges = exchanges }

-- Pages were taken along the previous links, from the one to which the time gate sent by this reply. One exchange was made for each of
-- them, one at the end, and two before.
pub record HasWalked {X : Type 0} (seen : X → LinkSeen) (base : BaseParts) (asked : ArriveQuery) (doc : StopsDoc) (gate : List ℕ) (first : PageName) (link last : X) (end : ArriveEnd) : Type 0 where
  pub turns : List (Taken X)
  pub outcome : Outcome
  pub walks : WalksBack seen base asked doc (First gate) [] first link turns last outcome
  pub is : end ≡ ended outcome (Some first.version) (length turns + 3)

-- the document has both stops of the question
pub record KnowsBoth (asked : ArriveQuery) (doc : StopsDoc) : Type 0 where
  pub from : HasStop doc.stops asked.from
  pub to : HasStop doc.stops asked.to

-- the document lacks the stop where the question begins
pub record LacksFrom {X : Type 0} (asked : ArriveQuery) (doc : StopsDoc) (first : PageName) (link last : X) (end : ArriveEnd) : Type 0 where
  pub lacks : HasStop doc.stops asked.from → ⊥
  pub same_link : last ≡ link
  pub is : end ≡ ended (Refused UnknownFrom) (Some first.version) 2

-- it has this one, and lacks the one where the question ends
pub record LacksTo {X : Type 0} (asked : ArriveQuery) (doc : StopsDoc) (first : PageName) (link last : X) (end : ArriveEnd) : Type 0 where
  pub has : HasStop doc.stops asked.from
  pub lacks : HasStop doc.stops asked.to → ⊥
  pub same_link : last ≡ link
  pub is : end ≡ ended (Refused UnknownTo) (Some first.version) 2

-- what comes after the stops document: it lacks a stop of the question, or pages are taken
abbrev pub AfterDoc : {X : Type 0} → (X → LinkSeen) → BaseParts → ArriveQuery → StopsDoc → List ℕ → PageName → X → X → ArriveEnd → Type 0
AfterDoc seen base asked doc gate first link last end =
    LacksFrom asked doc first link last end ⊎ LacksTo asked doc first link last end
    ⊎ (KnowsBoth asked doc × HasWalked seen base asked doc gate first link last end)

-- the call ended by this reply, which fails a test
pub record EndsWrong {X : Type 0} (reply : List ℕ) (fault : PeerFault) (version : Option ℕ) (exchanges : ℕ) (link last : X) (end : ArriveEnd) : Type 0 where
  pub same_link : last ≡ link
  pub is : end ≡ ended (PeerWrong reply fault) version exchanges

-- the call ended by an exchange that failed, with both counts of the link
pub record EndsFailed {X : Type 0} (before after : ℕ) (version : Option ℕ) (exchanges : ℕ) (link last : X) (end : ArriveEnd) : Type 0 where
  pub same_link : last ≡ link
  pub is : end ≡ ended (LinkFault before after) version exchanges

-- what is said by the reply with the stops document
abbrev pub AfterSaidStops : {X : Type 0} → (X → LinkSeen) → BaseParts → ArriveQuery → List ℕ → PageName → List ℕ → X → X → ArriveEnd → Result StopsDoc PeerFault → Type 0
AfterSaidStops seen base asked gate first reply link last end (Ok doc) = AfterDoc seen base asked doc gate first link last end
AfterSaidStops seen base asked gate first reply link last end (Err fault) = EndsWrong reply fault (Some first.version) 2 link last end

-- what the exchange for the stops document led to
abbrev pub AfterGotStops : {X : Type 0} → (X → LinkSeen) → BaseParts → ArriveQuery → List ℕ → PageName → ℕ → ℕ → X → X → ArriveEnd → Got → Type 0
AfterGotStops seen base asked gate first before after link last end (Some reply) =
    (said : Result StopsDoc PeerFault) × IsStopsReply reply said × AfterSaidStops seen base asked gate first reply link last end said
AfterGotStops seen base asked gate first before after link last end None = EndsFailed before after (Some first.version) 2 link last end

-- the stops document was asked for, and what came after it
pub record AsksStops {X : Type 0} (seen : X → LinkSeen) (base : BaseParts) (asked : ArriveQuery) (gate : List ℕ) (first : PageName) (link last : X) (end : ArriveEnd) : Type 0 where
  pub after : X
  pub got : Got
  pub exchange : IsExchange base (stops_target_of base) None (seen link) (seen after) got
  pub leads : AfterGotStops seen base asked gate first (seen link).faults (seen after).faults after last end got

-- what is said by the reply of the time gate
abbrev pub AfterSaidGate : {X : Type 0} → (X → LinkSeen) → BaseParts → ArriveQuery → List ℕ → X → X → ArriveEnd → Result PageName PeerFault → Type 0
AfterSaidGate seen base asked reply link last end (Ok first) = AsksStops seen base asked reply first link last end
AfterSaidGate seen base asked reply link last end (Err fault) = EndsWrong reply fault None 1 link last end

-- what the exchange with the time gate led to
abbrev pub AfterGotGate : {X : Type 0} → (X → LinkSeen) → BaseParts → ArriveQuery → ℕ → ℕ → X → X → ArriveEnd → Got → Type 0
AfterGotGate seen base asked before after link last end (Some reply) =
    (said : Result PageName PeerFault) × IsGateReply base asked.arrive reply said × AfterSaidGate seen base asked reply link last end said
AfterGotGate seen base asked before after link last end None = EndsFailed before after None 1 link last end

-- the time gate was asked for the moment of arrival, and what came after it
pub record AsksGate {X : Type 0} (seen : X → LinkSeen) (base : BaseParts) (asked : ArriveQuery) (link last : X) (end : ArriveEnd) : Type 0 where
  pub after : X
  pub got : Got
  pub exchange : IsExchange base (gate_target_of base asked.arrive) asked.known (seen link) (seen after) got
  pub leads : AfterGotGate seen base asked (seen link).faults (seen after).faults after last end got

-- the question is refused at once, without an exchange, or the time gate is asked
abbrev pub AfterRefusal : {X : Type 0} → (X → LinkSeen) → BaseParts → ArriveQuery → X → X → ArriveEnd → Option QueryFault → Type 0
AfterRefusal seen base asked link last end (Some fault) = (last ≡ link) × (end ≡ ended (Refused fault) None 0)
AfterRefusal seen base asked link last end None = AsksGate seen base asked link last end

-- how the question is asked over the link, which is left so, and how that ends
pub record Arrives {X : Type 0} (seen : X → LinkSeen) (base : BaseParts) (asked : ArriveQuery) (link last : X) (end : ArriveEnd) : Type 0 where
  pub refusal : Option QueryFault
  pub is_refusal : IsRefusal (forward_query asked) refusal
  pub leads : AfterRefusal seen base asked link last end refusal
