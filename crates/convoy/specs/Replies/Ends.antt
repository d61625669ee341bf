-- How a client ended, by the replies that it got.
use Rattle.std.specs.Prelude.{◌≡◌, ◌⊎◌, ℕ, ◌≤◌, true, List, [], ◌∷◌, ◌++◌, Option, Some, None, Ok, Err}
use Rattle.std.specs.Option.{IfSome}
use Rattle.lc_model.specs.Journey.{arrives_at}
use Rattle.lc_model.specs.Question.{latest_of}
use Rattle.lc_model.specs.Stop.{HasStop}
use Rattle.lc_model.specs.declared.doc.StopsDoc.{StopsDoc}
use Rattle.lc_model.specs.declared.journey.Journey.{Journey}
use Rattle.lc_model.specs.declared.page.PageName.{PageName}
use Rattle.lc_model.specs.declared.query.Query.{Query}
use Rattle.connection_uri.specs.Base.{BaseParts}
use Rattle.lc_io.specs.Counts.{Rose}
use Rattle.csa_scan.specs.StandsFor.{IsBestChain}
use Rattle.page_json.specs.declared.page.Page.{Page}
use Rattle.page_client.specs.Course.{IsOver}
use Rattle.page_client.specs.Gate.{IsGateReply}
use Rattle.page_client.specs.Page.{IsPageReply}
use Rattle.page_client.specs.Shown.{IsRefusal, is_off}
use Rattle.page_client.specs.Stops.{IsStopsReply}
use Rattle.page_client.specs.declared.fault.PeerFault.{PeerFault}
use Rattle.page_client.specs.declared.fault.PeerFault.TheVariants.{GateWrong}
use Rattle.page_client.specs.declared.fault.QueryFault.{QueryFault}
use Rattle.page_client.specs.declared.fault.QueryFault.TheVariants.{HorizonRange, SameStop, UnknownFrom, UnknownTo}
use Rattle.page_client.specs.declared.outcome.Outcome.{Outcome}
use Rattle.page_client.specs.declared.outcome.Outcome.TheVariants as outcomes
use Rattle.page_client.specs.declared.want.Want.{Want}
use Rattle.page_client.specs.declared.want.Want.TheVariants as wants
use Rattle.convoy.specs.Replies.Course.{WantsAfter, IsReading, IsSentOn, IsSentRight, connections_in}
use Rattle.convoy.specs.Replies.Made.{Made, failure_of, reply_to}

-- It read one page more, and this is the last: it links to none, or no later page could be better. The answer is a best chain of
-- the connections of all pages that it read, within the horizon of the question. Or there is no chain of them.
pub record HasAnswered (base : BaseParts) (query : Query) (version : Option ℕ) (made : List Made) (journey : Option Journey) : Type 0 where
  pub accepted : IsRefusal query None
  pub earlier : List Made
  pub name : PageName
  pub came : IsReading base query version earlier name
  pub reply : List ℕ
  pub page : Page
  pub says : IsPageReply base name reply (Ok page)
  pub right : IsSentRight query.leave (came.pages ++ page ∷ [])
  pub stops : (page.next ≡ None) ⊎ IsOver query came.doc (connections_in came.pages ++ page.list) page
  pub best : IsBestChain query came.doc (connections_in came.pages ++ page.list) journey
  pub in_time : IfSome journey (λ (j : Journey). arrives_at j ≤ latest_of query)
  pub was_made : made ≡ earlier ++ reply_to (wants.Page name) reply ∷ []

-- it was refused before any exchange, by its question alone
pub record IsRefusedAtOnce (query : Query) (version : Option ℕ) (made : List Made) (fault : QueryFault) : Type 0 where
  pub deserved : IsRefusal query (Some fault)
  pub no_version : version ≡ None
  pub nothing_made : made ≡ []

-- it read this stops document, after the time gate's reply
pub record HasReadStops (base : BaseParts) (query : Query) (version : Option ℕ) (made : List Made) (doc : StopsDoc) : Type 0 where
  pub accepted : IsRefusal query None
  pub earlier : List Made
  pub came : IsSentOn base query version earlier
  pub reply : List ℕ
  pub says : IsStopsReply reply (Ok doc)
  pub was_made : made ≡ earlier ++ reply_to wants.Stops reply ∷ []

-- which lacks the stop where the question begins
pub record LacksFrom (base : BaseParts) (query : Query) (version : Option ℕ) (made : List Made) : Type 0 where
  pub doc : StopsDoc
  pub read : HasReadStops base query version made doc
  pub no_from : HasStop doc.stops query.from → ⊥

-- or has this one, and lacks the one where it ends
pub record LacksTo (base : BaseParts) (query : Query) (version : Option ℕ) (made : List Made) : Type 0 where
  pub doc : StopsDoc
  pub read : HasReadStops base query version made doc
  pub from : HasStop doc.stops query.from
  pub no_to : HasStop doc.stops query.to → ⊥

-- why it was refused
abbrev pub IsRefusedBy : BaseParts → Query → Option ℕ → List Made → QueryFault → Type 0
IsRefusedBy base query version made HorizonRange = IsRefusedAtOnce query version made HorizonRange
IsRefusedBy base query version made SameStop = IsRefusedAtOnce query version made SameStop
IsRefusedBy base query version made UnknownFrom = LacksFrom base query version made
IsRefusedBy base query version made UnknownTo = LacksTo base query version made

-- The exchange by which it asked for what it wanted then failed. In it the link's count increased from the one to the other, and these are
-- between those before and now.
pub record IsCutOff (base : BaseParts) (query : Query) (before now : ℕ) (version : Option ℕ) (made : List Made) (count later : ℕ) : Type 0 where
  pub accepted : IsRefusal query None
  pub earlier : List Made
  pub want : Want
  pub came : WantsAfter base query version earlier want
  pub was_made : made ≡ earlier ++ failure_of want ∷ []
  pub from : before ≤ count
  pub rose : Rose count later
  pub up_to : later ≤ now

-- the reply to what was wanted fails this test, and none before it
abbrev pub FailsTest : BaseParts → Query → Want → List ℕ → PeerFault → Type 0
FailsTest base query wants.Gate reply fault = IsGateReply base query.leave reply (Err fault)
FailsTest base query wants.Stops reply fault = IsStopsReply reply (Err fault)
FailsTest base query (wants.Page name) reply fault = IsPageReply base name reply (Err fault)
FailsTest base query wants.Finished reply fault = ⊥

-- the last reply that it got is this one, which fails this test
pub record GotWrongReply (base : BaseParts) (query : Query) (version : Option ℕ) (made : List Made) (reply : List ℕ) (fault : PeerFault) : Type 0 where
  pub accepted : IsRefusal query None
  pub earlier : List Made
  pub want : Want
  pub came : WantsAfter base query version earlier want
  pub fails : FailsTest base query want reply fault
  pub was_made : made ≡ earlier ++ reply_to want reply ∷ []

-- The first page that it read is not the one for the moment at which the question leaves. This reply is that of the time gate, which
-- sent it there.
pub record WasSentWrong (base : BaseParts) (query : Query) (version : Option ℕ) (made : List Made) (reply : List ℕ) (fault : PeerFault) : Type 0 where
  pub accepted : IsRefusal query None
  pub earlier : List Made
  pub name : PageName
  pub came : IsReading base query version earlier name
  pub none_before : came.pages ≡ []
  pub by_gate : reply ≡ came.gate
  pub last : List ℕ
  pub page : Page
  pub says : IsPageReply base name last (Ok page)
  pub off : is_off query.leave page ≡ true
  pub fault_is : fault ≡ GateWrong page
  pub was_made : made ≡ earlier ++ reply_to (wants.Page name) last ∷ []

-- How a client of the question ended, by the exchanges that it made and the link's counts of faults before them and now. It has
-- this version, or none where it was sent to no page.
abbrev pub EndsBy : BaseParts → Query → ℕ → ℕ → Option ℕ → List Made → Outcome → Type 0
EndsBy base query before now version made (outcomes.Found journey) = HasAnswered base query version made (Some journey)
EndsBy base query before now version made outcomes.NoJourney = HasAnswered base query version made None
EndsBy base query before now version made (outcomes.Refused fault) = IsRefusedBy base query version made fault
EndsBy base query before now version made (outcomes.LinkFault count later) = IsCutOff base query before now version made count later
EndsBy base query before now version made (outcomes.PeerWrong reply fault) =
    GotWrongReply base query version made reply fault ⊎ WasSentWrong base query version made reply fault
