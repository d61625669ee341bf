-- What a client has read after one exchange more.
use Rattle.std.proofs.Common.{◌≡◌, ℕ, ◌+◌, ◌<◌, inl, inr, List, [], ◌∷◌, ◌++◌, Bool, true, false, length, Option, Some, None, Result, Ok, Err, refl, ap, sym, subst, ◌∙◌, arith}
use Rattle.std.specs.Prelude.{if◌then◌else◌}
use Rattle.std.specs.List.{All}
use Rattle.std.proofs.lemmas.List.{append-nil}
use Rattle.std.proofs.lemmas.List.Concat.{flat_map-append}
use Rattle.lc_model.specs.Connection.{InDepartureOrder}
use Rattle.lc_model.specs.Stop.{HasStop}
use Rattle.lc_model.specs.declared.connection.Connection.{Connection}
use Rattle.lc_model.specs.declared.doc.StopsDoc.{StopsDoc}
use Rattle.lc_model.specs.declared.page.PageName.{PageName}
use Rattle.lc_model.specs.declared.query.Query.{Query}
use Rattle.csa_scan.specs.StandsFor.{IsBestChain}
use Rattle.connection_uri.specs.Base.{BaseParts}
use Rattle.page_json.specs.declared.page.Page.{Page}
use Rattle.lc_world.specs.Link.{LinkSeen}
use Rattle.page_client.specs.Client.{AfterDoc, AfterPage, AfterStops, Leaves, StandsFor, shown}
use Rattle.page_client.specs.Course.{Follows}
use Rattle.page_client.specs.Shown.{Shown, after_gate, after_stops, answered, ended, is_off, onward, want_of, wrong_gate}
use Rattle.page_client.specs.declared.client.Client.{Client}
use Rattle.page_client.specs.declared.fault.PeerFault.{PeerFault}
use Rattle.page_client.specs.declared.fault.PeerFault.TheVariants.{GateWrong}
use Rattle.page_client.specs.declared.fault.QueryFault.TheVariants.{UnknownFrom, UnknownTo}
use Rattle.page_client.specs.declared.outcome.Outcome.{Outcome}
use Rattle.page_client.specs.declared.outcome.Outcome.TheVariants.{LinkFault, PeerWrong, Refused}
use Rattle.page_client.specs.declared.phase.Phase.{Phase}
use Rattle.page_client.specs.declared.phase.Phase.TheVariants as phases
use Rattle.page_client.specs.declared.step.Step.{Step}
use Rattle.page_client.specs.declared.step.Step.TheVariants.{Last, Next}
use Rattle.page_client.specs.declared.want.Want.TheVariants as wants
use Rattle.page_client.proofs.PageLemmas.{behind_taken, waits_for}
use Rattle.convoy.specs.Exchange.{Got}
use Rattle.convoy.specs.Steps.{Takes, TakesGate}
use Rattle.rounds_client.specs.Course.{HasRead, IsReading, IsUnread, LeadsTo, Point, Reads, ReadsAt}
use Rattle.rounds_client.specs.Given.{AfterReply, Gives, KeepsDoc, MayBeKept, ReadsReply, TakesDoc, TakesGot, Was, connections_of_pages}

-- what a client read is said by what it shows
by_shown : (client : Client) (given : Was) (s : Shown) → shown client ≡ s → ReadsAt client given s.query s.phase s.outcome → Reads client given
by_shown client given s is reads = let P : Shown → Type 0 = λ x. ReadsAt client given x.query x.phase x.outcome in subst P (sym is) reads

-- a client that ended without a journey
ended_reads : (client : Client) (given : Was) (s : Shown) (outcome : Outcome) → shown client ≡ ended outcome s → HasRead s.query given (Some outcome) → Reads client given
ended_reads client given s outcome is reads = by_shown client given (ended outcome s) is reads

-- who wants the time gate or the stops document has read nothing
unread_at_gate : (client : Client) (given : Was) (query : Query) (phase : Phase) (outcome : Option Outcome) → want_of phase ≡ wants.Gate → ReadsAt client given query phase outcome → IsUnread query given
unread_at_gate client given query phases.Gate outcome is reads = reads
unread_at_gate client given query (phases.Stops first) outcome is reads = absurd (cc)
unread_at_gate client given query (phases.Page name) outcome is reads = absurd (cc)
unread_at_gate client given query phases.Finished outcome is reads = absurd (cc)

unread_at_stops : (client : Client) (given : Was) (query : Query) (phase : Phase) (outcome : Option Outcome) → want_of phase ≡ wants.Stops → ReadsAt client given query phase outcome → IsUnread query given
unread_at_stops client given query phases.Gate outcome is reads = absurd (cc)
unread_at_stops client given query (phases.Stops first) outcome is reads = reads
unread_at_stops client given query (phases.Page name) outcome is reads = absurd (cc)
unread_at_stops client given query phases.Finished outcome is reads = absurd (cc)

-- who wants a page reads
reading_at : (client : Client) (given : Was) (query : Query) (phase : Phase) (outcome : Option Outcome) (name : PageName) → want_of phase ≡ wants.Page name → ReadsAt client given query phase outcome → IsReading client given
reading_at client given query phases.Gate outcome name is reads = absurd (cc)
reading_at client given query (phases.Stops first) outcome name is reads = absurd (cc)
reading_at client given query (phases.Page other) outcome name is reads = reads
reading_at client given query phases.Finished outcome name is reads = absurd (cc)

-- the time gate's reply
gate_reads : (new : Client) (given : Was) (s : Shown) (reply : List ℕ) (said : Result PageName PeerFault) → shown new ≡ after_gate reply said s → IsUnread s.query given → Reads new given
gate_reads new given s reply (Ok name) is unread = by_shown new given (after_gate reply (Ok name) s) is unread
gate_reads new given s reply (Err fault) is unread = ended_reads new given s (PeerWrong reply fault) is tt

gate_given : (base : BaseParts) (old new : Client) (given : Was) (before after : ℕ) (got : Got) → Takes old new before after (TakesGate base old new) got → IsUnread old.query given → Reads new given
gate_given base old new given before after None takes unread = ended_reads new given (shown old) (LinkFault before after) takes tt
gate_given base old new given before after (Some reply) takes unread = gate_reads new given (shown old) reply takes.said takes.after unread

-- the stops document
doc_reads : (old new : Client) (given now : Was) (doc : StopsDoc) → AfterDoc old doc new → KeepsDoc old.query (Ok doc) now.doc → now.pages ≡ given.pages → IsUnread old.query given → Reads new now
doc_reads old new given now doc (inl (no_from, is)) keeps same unread = ended_reads new now (shown old) (Refused UnknownFrom) is tt
doc_reads old new given now doc (inr (inl (from, no_to, is))) keeps same unread = ended_reads new now (shown old) (Refused UnknownTo) is tt
doc_reads old new given now doc (inr (inr (from, to, is, stands))) keeps same unread =
    let query : new.query ≡ old.query = ap (λ (s : Shown). s.query) is in
    let none : now.pages ≡ [] = same ∙ unread.pages in
    let H : Query → Type 0 = λ q. Rattle.page_client.specs.Shown.HasHorizon q in
    let F : Query → Type 0 = λ q. HasStop doc.stops q.from in
    let T : Query → Type 0 = λ q. HasStop doc.stops q.to in
    let S : List Page → Type 0 = λ pages. StandsFor new doc (connections_of_pages pages) in
    let P : Phase → Type 0 = λ p. ReadsAt new now new.query p new.outcome in
    let reading : IsReading new now = record {
      horizon = subst H (sym query) unread.horizon;
      doc = doc;
      has = keeps from to;
      from = subst F (sym query) from;
      to = subst T (sym query) to;
      stands = subst S (sym none) stands;
    } in
    subst P (sym stands.wants) reading

stops_reads : (old new : Client) (given now : Was) (reply : List ℕ) (said : Result StopsDoc PeerFault) → AfterStops old reply said new → KeepsDoc old.query said now.doc → now.pages ≡ given.pages → IsUnread old.query given → Reads new now
stops_reads old new given now reply (Ok doc) after keeps same unread = doc_reads old new given now doc after keeps same unread
stops_reads old new given now reply (Err fault) is keeps same unread = ended_reads new now (shown old) (PeerWrong reply fault) is tt

stops_given : (old new : Client) (given now : Was) (before after : ℕ) (got : Got) → TakesGot old new before after given now (λ reply. TakesDoc old new reply given now) got → IsUnread old.query given → Reads new now
stops_given old new given now before after None takes unread = ended_reads new now (shown old) (LinkFault before after) takes.0 tt
stops_given old new given now before after (Some reply) takes unread = stops_reads old new given now reply takes.said takes.after takes.doc takes.pages unread

-- a time gate that was wrong found no journey
wrong_found_none : (query : Query) (given : Was) (page : Page) (leave : ℕ) (gate : Option (List ℕ)) (outcome : Outcome) → wrong_gate page leave gate ≡ Some outcome → HasRead query given (Some outcome)
wrong_found_none query given page leave None outcome is = absurd (cc)
wrong_found_none query given page leave (Some reply) outcome is = by_test (is_off leave page) is where
  by_test : (off : Bool) → (if off then Some (PeerWrong reply (GateWrong page)) else None) ≡ Some outcome → HasRead query given (Some outcome)
  by_test true e = let same : PeerWrong reply (GateWrong page) ≡ outcome = cc in let P : Outcome → Type 0 = λ o. HasRead query given (Some o) in subst P same tt
  by_test false e = absurd (cc)

-- one page more
one_page_more : (pages more : List Page) (page : Page) → more ≡ pages ++ page ∷ [] → connections_of_pages more ≡ connections_of_pages pages ++ page.list
one_page_more pages more page is =
    ap connections_of_pages is ∙ flat_map-append (λ (p : Page). p.list) pages (page ∷ []) ∙ ap (λ l. connections_of_pages pages ++ l) (append-nil page.list)

-- the page was taken, and the next one is wanted, or the question is answered
step_reads : (old new : Client) (given now : Was) (page : Page) (reading : IsReading old given) → now.doc ≡ given.doc → connections_of_pages now.pages ≡ connections_of_pages given.pages ++ page.list → InDepartureOrder (connections_of_pages given.pages ++ page.list) →
    (step : Step) → Follows old.query reading.doc (connections_of_pages given.pages ++ page.list) page step → Leaves (shown old) reading.doc (connections_of_pages given.pages ++ page.list) step new → Reads new now
step_reads old new given now page reading same_doc pages in_order (Next next) follows (is, stands) =
    let query : new.query ≡ old.query = ap (λ (s : Shown). s.query) is in
    let H : Query → Type 0 = λ q. Rattle.page_client.specs.Shown.HasHorizon q in
    let F : Query → Type 0 = λ q. HasStop reading.doc.stops q.from in
    let T : Query → Type 0 = λ q. HasStop reading.doc.stops q.to in
    let S : List Connection → Type 0 = λ l. StandsFor new reading.doc l in
    let P : Phase → Type 0 = λ p. ReadsAt new now new.query p new.outcome in
    let more : IsReading new now = record {
      horizon = subst H (sym query) reading.horizon;
      doc = reading.doc;
      has = same_doc ∙ reading.has;
      from = subst F (sym query) reading.from;
      to = subst T (sym query) reading.to;
      stands = subst S (sym pages) stands;
    } in
    subst P (sym stands.wants) more
step_reads old new given now page reading same_doc pages in_order (Last None) follows is = ended_reads new now (shown old) (answered None) is tt
step_reads old new given now page reading same_doc pages in_order (Last (Some journey)) follows is =
    let O : List Connection → Type 0 = λ l. InDepartureOrder l in
    let B : List Connection → Type 0 = λ l. IsBestChain old.query reading.doc l (Some journey) in
    ended_reads new now (shown old) (answered (Some journey)) is (record {
      horizon = reading.horizon;
      doc = reading.doc;
      has = same_doc ∙ reading.has;
      from = reading.from;
      to = reading.to;
      in_order = subst O (sym pages) in_order;
      is_best = subst B (sym pages) follows.1;
    })

-- a page
page_reads : (old new : Client) (given now : Was) (name : PageName) (page : Page) → old.phase ≡ phases.Page name → MayBeKept name page → (reading : IsReading old given) → now.doc ≡ given.doc → now.pages ≡ given.pages ++ page ∷ [] →
    (outcome : Option Outcome) → wrong_gate page old.query.leave old.gate ≡ outcome → AfterPage old page outcome new → Reads new now
page_reads old new given now name page waits may reading same_doc pages (Some outcome) wrong is =
    ended_reads new now (shown old) outcome is (wrong_found_none old.query now page old.query.leave old.gate outcome wrong)
page_reads old new given now name page waits may reading same_doc pages None right goes_on =
    let taken = connections_of_pages given.pages in
    let stands = reading.stands in
    let on = goes_on reading.doc taken stands in
    let phase : phases.Page stands.name ≡ phases.Page name = sym stands.wants ∙ waits in
    let one : stands.name ≡ name = cc in
    let A : PageName → Type 0 = λ n. All (λ (c : Connection). c.dep < n.departs) taken in
    let in_order = behind_taken page may.on may.valid taken stands.scanned.in_order (subst A (one ∙ sym may.named) stands.scanned.before) in
    step_reads old new given now page reading same_doc (one_page_more given.pages now.pages page pages) in_order on.0 on.1 on.2

said_reads : (old new : Client) (given now : Was) (name : PageName) (reply : List ℕ) (said : Result Page PeerFault) → old.phase ≡ phases.Page name → IsReading old given → AfterReply name old new reply given now said → Reads new now
said_reads old new given now name reply (Ok page) waits reading (takes, may, pages, same_doc) =
    page_reads old new given now name page waits may reading same_doc pages (wrong_gate page old.query.leave old.gate) refl takes
said_reads old new given now name reply (Err fault) waits reading (is, kept) = ended_reads new now (shown old) (PeerWrong reply fault) is tt

page_gives : (base : BaseParts) (old new : Client) (given now : Was) (before after : ℕ) (name : PageName) (got : Got) → TakesGot old new before after given now (λ reply. ReadsReply base name old new reply given now) got → old.phase ≡ phases.Page name →
    IsReading old given → Reads new now
page_gives base old new given now before after name None takes waits reading = ended_reads new now (shown old) (LinkFault before after) takes.0 tt
page_gives base old new given now before after name (Some reply) takes waits reading = said_reads old new given now name reply takes.said waits reading takes.after

-- one exchange more
pub reads_on : (base : BaseParts) (old new : Client) (before after : LinkSeen) (given now : Was) → Gives base old new before after given now → Reads old given → Reads new now
reads_on base old new before after given now (inl (gate, same)) reads =
    let P : Was → Type 0 = λ w. Reads new w in
    subst P (sym same) (gate_given base old new given before.faults after.faults gate.got gate.takes (unread_at_gate old given old.query old.phase old.outcome gate.wants reads))
reads_on base old new before after given now (inr (inl stops)) reads =
    stops_given old new given now before.faults after.faults stops.got stops.takes (unread_at_stops old given old.query old.phase old.outcome stops.wants reads)
reads_on base old new before after given now (inr (inr page)) reads =
    page_gives base old new given now before.faults after.faults page.name page.got page.takes (waits_for old.phase page.name page.wants)
    (reading_at old given old.query old.phase old.outcome page.name page.wants reads)

-- the exchanges so far
pub record SoFar {X : Type 0} (seen : X → LinkSeen) (base : BaseParts) (old : Client) (given : Was) (start : X) (new : Client) (now : Was) (link : X) (exchanges : ℕ) : Type 0 where
  pub points : List (Point X)
  pub leads : LeadsTo seen base points (record { client = old; given = given; link = start }) (record { client = new; given = now; link = link })
  pub count : exchanges ≡ length points

pub none_made : {X : Type 0} (seen : X → LinkSeen) (base : BaseParts) (client : Client) (given : Was) (link : X) → SoFar seen base client given link client given link 0
none_made seen base client given link = record { points = []; leads = refl; count = refl }

pub one_more : {X : Type 0} (seen : X → LinkSeen) (base : BaseParts) (old : Client) (given : Was) (start : X) (mid : Client) (between : Was) (link : X) (new : Client) (now : Was) (end : X) (exchanges : ℕ) →
    SoFar seen base old given start mid between link exchanges → Gives base mid new (seen link) (seen end) between now → SoFar seen base old given start new now end (exchanges + 1)
one_more seen base old given start mid between link new now end exchanges so gives = record {
  points = record { client = mid; given = between; link = link } ∷ so.points;
  leads = (gives, so.leads);
  count = let c = so.count in omega arith;
}
