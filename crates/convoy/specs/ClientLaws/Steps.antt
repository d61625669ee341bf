-- What a client asks a side for, and what each step leaves.
use Rattle.std.specs.Prelude.{◌≡◌, ℕ, ◌+◌, List, [], ◌∷◌, ◌++◌, length, Option, Some, Result, Ok, Err}
use Rattle.lc_model.specs.declared.doc.StopsDoc.{StopsDoc}
use Rattle.lc_model.specs.declared.journey.Journey.{Journey}
use Rattle.lc_model.specs.declared.page.PageName.{PageName}
use Rattle.lc_model.specs.declared.query.Query.{Query}
use Rattle.connection_uri.specs.Base.{BaseParts}
use Rattle.page_json.specs.declared.page.Page.{Page}
use Rattle.page_client.specs.Client.{AfterStops, TakesPage, shown}
use Rattle.page_client.specs.Gate.{IsGateReply}
use Rattle.page_client.specs.Page.{IsPageReply}
use Rattle.page_client.specs.Request.{Asks, known_at, target_of}
use Rattle.page_client.specs.Shown.{Begins, Shown, after_gate, answered, ended, spent, want_of}
use Rattle.page_client.specs.Stops.{IsStopsReply}
use Rattle.page_client.specs.declared.client.Client.{Client}
use Rattle.page_client.specs.declared.fault.PeerFault.{PeerFault}
use Rattle.page_client.specs.declared.fault.QueryFault.{QueryFault}
use Rattle.page_client.specs.declared.outcome.Outcome.TheVariants.{LinkFault, PeerWrong, Refused}
use Rattle.page_client.specs.declared.want.Want.{Want}
use Rattle.page_client.specs.declared.want.Want.TheVariants as wants
use Rattle.lc_world.specs.Sides.Reply.{IsReply}
use Rattle.lc_world.specs.Sides.Short.{StandsUnder}
use Rattle.lc_world.specs.Sides.Side.{IsValidSide, Side}
use Rattle.convoy.specs.ClientLaws.Stated.{version_at}
use Rattle.convoy.specs.ClientLaws.Answered.{NeededAt, answer_of}
use Rattle.convoy.specs.ClientLaws.Fits.{FitsSide, HasAnswered, HasFailed, IsDenied}
use Rattle.convoy.specs.ClientLaws.Published.{IsOwnPage}
use Rattle.convoy.specs.ClientLaws.Wants.{AreWants, IsItsVersion, IsNoFault}

-- the bytes are the side's reply to what a client of the question asks under this base where it wants this
pub record IsReplyTo (side : Side) (base : BaseParts) (query : Query) (want : Want) (reply : List ℕ) : Type 0 where
  pub request : List ℕ
  pub asks : Asks base (target_of base query want) (known_at query want) request
  pub replies : IsReply side request reply

-- a reply says the side's own page of this name, and has no fault
abbrev pub SaysOwnPage : Side → PageName → Result Page PeerFault → Type 0
SaysOwnPage side name (Ok page) = (page.name ≡ name) × IsOwnPage side page
SaysOwnPage side name (Err fault) = ⊥

-- the question stays, and the version
pub record KeepsVersion (old new : Shown) : Type 0 where
  pub query : new.query ≡ old.query
  pub version : new.version ≡ old.version

-- the question stays, and the version is now the one that is meant by the question's known moment
pub record GetsVersion (side : Side) (old new : Shown) : Type 0 where
  pub query : new.query ≡ old.query
  pub version : new.version ≡ Some (version_at side old.query.known)

-- a client begins in agreement with every side
abbrev pub BeginsInAgreement : Type 0
BeginsInAgreement = (side : Side) (query : Query) (client : Client) → Begins query (shown client) → FitsSide side client []

-- after the time gate's reply it agrees with the side that gave it, and has the version that its question means there
abbrev pub GateKeepsIt : Type 0
GateKeepsIt =
    (side : Side) (base : BaseParts) (old new : Client) (wanted : List Want) (reply : List ℕ) (said : Result PageName PeerFault) → StandsUnder base side
    → FitsSide side old wanted → want_of (shown old).phase ≡ wants.Gate → IsReplyTo side base (shown old).query wants.Gate reply
    → IsGateReply base (shown old).query.leave reply said → shown new ≡ after_gate reply said (shown old)
    → FitsSide side new (wanted ++ wants.Gate ∷ []) × GetsVersion side (shown old) (shown new)

-- after the stops document it agrees with the side that sent it
abbrev pub StopsKeepIt : Type 0
StopsKeepIt =
    (side : Side) (base : BaseParts) (old new : Client) (wanted : List Want) (reply : List ℕ) (said : Result StopsDoc PeerFault) → StandsUnder base side
    → FitsSide side old wanted → want_of (shown old).phase ≡ wants.Stops → IsReplyTo side base (shown old).query wants.Stops reply
    → IsStopsReply reply said → AfterStops old reply said new → FitsSide side new (wanted ++ wants.Stops ∷ []) × KeepsVersion (shown old) (shown new)

-- what is said to a client that wants a page is the side's own page of that name
abbrev pub PageIsOwn : Type 0
PageIsOwn =
    (side : Side) (base : BaseParts) (client : Client) (wanted : List Want) (name : PageName) (reply : List ℕ) (said : Result Page PeerFault) → StandsUnder base side
    → FitsSide side client wanted → want_of (shown client).phase ≡ wants.Page name
    → IsReplyTo side base (shown client).query (wants.Page name) reply → IsPageReply base name reply said
    → SaysOwnPage side name said

-- after a page of the side, whoever sent it, it agrees with the side
abbrev pub PageKeepsIt : Type 0
PageKeepsIt =
    (side : Side) (old new : Client) (wanted : List Want) (page : Page) → IsValidSide side → FitsSide side old wanted
    → want_of (shown old).phase ≡ wants.Page page.name → IsOwnPage side page → TakesPage old page new
    → FitsSide side new (wanted ++ wants.Page page.name ∷ []) × KeepsVersion (shown old) (shown new)

-- a client that ran out of memory agrees with the side
abbrev pub SpentKeepsIt : Type 0
SpentKeepsIt =
    (side : Side) (old new : Client) (wanted : List Want) → FitsSide side old wanted → (want_of (shown old).phase ≡ wants.Finished → ⊥)
    → shown new ≡ spent (shown old) → FitsSide side new wanted × KeepsVersion (shown old) (shown new)

-- a client whose exchange failed agrees with the side
abbrev pub LinkFaultKeepsIt : Type 0
LinkFaultKeepsIt =
    (side : Side) (old new : Client) (wanted : List Want) (before after : ℕ) → IsValidSide side → FitsSide side old wanted
    → (want_of (shown old).phase ≡ wants.Finished → ⊥) → shown new ≡ ended (LinkFault before after) (shown old) → FitsSide side new wanted × KeepsVersion (shown old) (shown new)

-- what a client wants is the next one of its wants
abbrev pub WantsTheNext : Type 0
WantsTheNext =
    (side : Side) (client : Client) (wanted all : List Want) (version : ℕ) → IsValidSide side → FitsSide side client wanted
    → IsItsVersion (shown client).version version → AreWants side version (shown client).query all → (want_of (shown client).phase ≡ wants.Finished → ⊥)
    → (more : List Want) × (all ≡ wanted ++ want_of (shown client).phase ∷ more)

-- a client that ended by no fault received exactly its wants
abbrev pub EndsWithItsWants : Type 0
EndsWithItsWants =
    (side : Side) (client : Client) (wanted : List Want) (version : ℕ) → FitsSide side client wanted → IsItsVersion (shown client).version version
    → IsNoFault (shown client).outcome → AreWants side version (shown client).query wanted

-- with an answer these are two more than the needed pages: the time gate and the stops document
abbrev pub TwoAndThePages : Type 0
TwoAndThePages =
    (side : Side) (client : Client) (wanted : List Want) (journey : Option Journey) (names : List PageName) (version : ℕ) → FitsSide side client wanted
    → (shown client).outcome ≡ Some (answered journey) → (shown client).version ≡ Some version → NeededAt side version (shown client).query names
    → length wanted ≡ length names + 2

-- what a client found is a best journey at its version, and where it found none there is none
abbrev pub EndsWithAnAnswer : Type 0
EndsWithAnAnswer =
    (side : Side) (client : Client) (wanted : List Want) (journey : Option Journey) → FitsSide side client wanted
    → (shown client).outcome ≡ Some (answered journey) → HasAnswered side (shown client) wanted (answer_of journey)

-- who was refused deserved it
abbrev pub RefusalsAreDeserved : Type 0
RefusalsAreDeserved =
    (side : Side) (client : Client) (wanted : List Want) (fault : QueryFault) → FitsSide side client wanted
    → (shown client).outcome ≡ Some (Refused fault) → IsDenied side (shown client) wanted fault

-- Who ended by a fault of the link had asked for a front of its wants. It has no version exactly where that was the time gate alone.
abbrev pub FaultsCutShort : Type 0
FaultsCutShort =
    (side : Side) (client : Client) (wanted : List Want) (before after : ℕ) → FitsSide side client wanted
    → (shown client).outcome ≡ Some (LinkFault before after) → HasFailed side (shown client) wanted (shown client).version

-- and none ended by a reply that fails a test
abbrev pub NoReplyFailsATest : Type 0
NoReplyFailsATest =
    (side : Side) (client : Client) (wanted : List Want) (reply : List ℕ) (fault : PeerFault) → FitsSide side client wanted
    → (shown client).outcome ≡ Some (PeerWrong reply fault) → ⊥
