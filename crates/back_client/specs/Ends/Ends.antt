-- How a question for the latest departure ended, by the replies that it got.
use Rattle.std.specs.Prelude.{◌≡◌, ◌⊎◌, ℕ, ◌≤◌, true, List, [], ◌∷◌, ◌++◌, Option, Some, None, Ok}
use Rattle.std.specs.Option.{IfSome}
use Rattle.lc_io.specs.Counts.{Rose}
use Rattle.lc_model.specs.Journey.{arrives_at}
use Rattle.lc_model.specs.declared.journey.Journey.{Journey}
use Rattle.lc_model.specs.declared.page.PageName.{PageName}
use Rattle.connection_uri.specs.Base.{BaseParts}
use Rattle.page_json.specs.declared.page.Page.{Page}
use Rattle.page_client.specs.Page.{IsPageReply}
use Rattle.page_client.specs.Shown.{IsRefusal}
use Rattle.page_client.specs.declared.fault.PeerFault.{PeerFault}
use Rattle.page_client.specs.declared.fault.PeerFault.TheVariants.{GateWrong, Retreat}
use Rattle.page_client.specs.declared.outcome.Outcome.{Outcome}
use Rattle.page_client.specs.declared.outcome.Outcome.TheVariants as outcomes
use Rattle.page_client.specs.declared.want.Want.{Want}
use Rattle.page_client.specs.declared.want.Want.TheVariants as wants
use Rattle.back_scan.specs.Forward.{forward_query}
use Rattle.back_scan.specs.StandsFor.{IsLatestChain}
use Rattle.back_scan.specs.declared.arrive_query.ArriveQuery.{ArriveQuery}
use Rattle.back_client.specs.Steps.{IsOverAt}
use Rattle.back_client.specs.Wrong.{is_off, retreats}
use Rattle.back_client.specs.declared.page.Place.TheVariants.{First}
use Rattle.convoy.specs.Replies.Ends.{FailsTest, IsRefusedBy}
use Rattle.convoy.specs.Replies.Made.{Made, failure_of, reply_to}
use Rattle.back_client.specs.Ends.Back.{IsReadingBack, IsSentRight, PassesTests, WantsBackAfter, connections_back, gate_query, place_back}

-- It read one page more, which passes the tests, and this is the last: it has no previous one, or no earlier page could be better. The answer
-- is a latest chain of the connections of all pages that it read, and arrives by the moment. Or there is no chain of them.
pub record HasAnsweredLatest (base : BaseParts) (asked : ArriveQuery) (version : Option ℕ) (made : List Made) (journey : Option Journey) : Type 0 where
  pub accepted : IsRefusal (gate_query asked) None
  pub earlier : List Made
  pub name : PageName
  pub came : IsReadingBack base asked version earlier name
  pub reply : List ℕ
  pub page : Page
  pub says : IsPageReply base name reply (Ok page)
  pub passes : PassesTests asked.arrive (place_back (First came.gate) came.pages) page
  pub stops : (page.previous ≡ None) ⊎ IsOverAt (forward_query asked) came.doc (page.list ++ connections_back came.pages) page.name.departs
  pub latest : IsLatestChain (forward_query asked) came.doc (page.list ++ connections_back came.pages) journey
  pub in_time : IfSome journey (λ (j : Journey). arrives_at j ≤ asked.arrive)
  pub was_made : made ≡ earlier ++ reply_to (wants.Page name) reply ∷ []

-- The exchange by which it asked for what it wanted then failed. In it the link's count increased from the one to the other. The first is
-- that before or a later one, and the second is that of now.
pub record IsCutOffBack (base : BaseParts) (asked : ArriveQuery) (before now : ℕ) (version : Option ℕ) (made : List Made) (count later : ℕ) : Type 0 where
  pub accepted : IsRefusal (gate_query asked) None
  pub earlier : List Made
  pub want : Want
  pub came : WantsBackAfter base asked version earlier want
  pub was_made : made ≡ earlier ++ failure_of want ∷ []
  pub from : before ≤ count
  pub rose : Rose count later
  pub now_is : later ≡ now

-- the last reply that it got is this one, which fails this test of a reply, and none before it
pub record GotWrongReplyBack (base : BaseParts) (asked : ArriveQuery) (version : Option ℕ) (made : List Made) (reply : List ℕ) (fault : PeerFault) : Type 0 where
  pub accepted : IsRefusal (gate_query asked) None
  pub earlier : List Made
  pub want : Want
  pub came : WantsBackAfter base asked version earlier want
  pub fails : FailsTest base (gate_query asked) want reply fault
  pub was_made : made ≡ earlier ++ reply_to want reply ∷ []

-- The first page that it read is not the one for the moment of arrival. This reply is that of the time gate, which sent it there.
pub record WasSentWrongBack (base : BaseParts) (asked : ArriveQuery) (version : Option ℕ) (made : List Made) (reply : List ℕ) (fault : PeerFault) : Type 0 where
  pub accepted : IsRefusal (gate_query asked) None
  pub earlier : List Made
  pub name : PageName
  pub came : IsReadingBack base asked version earlier name
  pub none_before : came.pages ≡ []
  pub by_gate : reply ≡ came.gate
  pub last : List ℕ
  pub page : Page
  pub says : IsPageReply base name last (Ok page)
  pub off : is_off asked.arrive page ≡ true
  pub fault_is : fault ≡ GateWrong page
  pub was_made : made ≡ earlier ++ reply_to (wants.Page name) last ∷ []

-- The last page that it read does not lead back, and is rightly sent to where the time gate sent to it. This reply says that page.
pub record WasNotLedBack (base : BaseParts) (asked : ArriveQuery) (version : Option ℕ) (made : List Made) (reply : List ℕ) (fault : PeerFault) : Type 0 where
  pub accepted : IsRefusal (gate_query asked) None
  pub earlier : List Made
  pub name : PageName
  pub came : IsReadingBack base asked version earlier name
  pub page : Page
  pub says : IsPageReply base name reply (Ok page)
  pub sent : IsSentRight asked.arrive (place_back (First came.gate) came.pages) page
  pub not_back : retreats (place_back (First came.gate) came.pages) page ≡ true
  pub fault_is : fault ≡ Retreat
  pub was_made : made ≡ earlier ++ reply_to (wants.Page name) reply ∷ []

-- How the question ended, by the exchanges that it made and the link's counts of faults before them and now. It has this version, or none
-- where it was sent to no page.
abbrev pub EndsBackBy : BaseParts → ArriveQuery → ℕ → ℕ → Option ℕ → List Made → Outcome → Type 0
EndsBackBy base asked before now version made (outcomes.Found journey) = HasAnsweredLatest base asked version made (Some journey)
EndsBackBy base asked before now version made outcomes.NoJourney = HasAnsweredLatest base asked version made None
EndsBackBy base asked before now version made (outcomes.Refused fault) = IsRefusedBy base (gate_query asked) version made fault
EndsBackBy base asked before now version made (outcomes.LinkFault count later) = IsCutOffBack base asked before now version made count later
EndsBackBy base asked before now version made (outcomes.PeerWrong reply fault) =
    GotWrongReplyBack base asked version made reply fault ⊎ WasSentWrongBack base asked version made reply fault ⊎ WasNotLedBack base asked version made reply fault
