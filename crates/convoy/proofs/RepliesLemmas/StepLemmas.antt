-- The phase of a client that has come this far, and each of its steps, by an exchange or by a cached page.
use Rattle.std.proofs.Common.{◌≡◌, ℕ, ◌≤◌, inl, inr, List, [], ◌∷◌, ◌++◌, Bool, true, false, Option, Some, None, Result, Ok, Err, IsErrOf, refl, ap, sym, subst, ◌∙◌, arith}
use Rattle.std.specs.Prelude.{◌⊎◌, if◌then◌else◌}
use Rattle.std.specs.Option.{IfSome}
use Rattle.lc_model.specs.Journey.{arrives_at}
use Rattle.lc_model.specs.Question.{latest_of}
use Rattle.lc_model.specs.Stop.{HasStop}
use Rattle.lc_model.specs.declared.connection.Connection.{Connection}
use Rattle.lc_model.specs.declared.doc.StopsDoc.{StopsDoc}
use Rattle.lc_model.specs.declared.journey.Journey.{Journey}
use Rattle.lc_model.specs.declared.page.PageName.{PageName}
use Rattle.lc_model.specs.declared.query.Query.{Query}
use Rattle.lc_io.specs.Counts.{HasCause}
use Rattle.lc_world.specs.declared.link.LinkFail.TheVariants.{Failed}
use Rattle.connection_uri.specs.Base.{BaseParts}
use Rattle.csa_scan.specs.StandsFor.{IsBestChain}
use Rattle.page_json.specs.declared.page.Page.{Page}
use Rattle.page_client.specs.Kept.{Kept}
use Rattle.page_client.specs.Client.{AfterDoc, AfterPage, AfterStops, GoesOnBy, Leaves, StandsFor, TakesPage, shown}
use Rattle.page_client.specs.Course.{Follows, IsOver}
use Rattle.page_client.specs.Gate.{IsGateReply}
use Rattle.page_client.specs.Page.{IsPageReply}
use Rattle.page_client.specs.Shown.{IsRefusal, Shown, after_gate, after_stops, answered, behind_stops, ended, is_off, onward, wrong_gate}
use Rattle.page_client.specs.Stops.{IsStopsReply}
use Rattle.page_client.specs.declared.client.Client.{Client}
use Rattle.page_client.specs.declared.fault.PeerFault.{PeerFault}
use Rattle.page_client.specs.declared.fault.PeerFault.TheVariants.{GateWrong}
use Rattle.page_client.specs.declared.fault.QueryFault.TheVariants.{UnknownFrom, UnknownTo}
use Rattle.page_client.specs.declared.outcome.Outcome.{Outcome}
use Rattle.page_client.specs.declared.outcome.Outcome.TheVariants as outcomes
use Rattle.page_client.specs.declared.phase.Phase.{Phase}
use Rattle.page_client.specs.declared.phase.Phase.TheVariants as phases
use Rattle.page_client.specs.declared.step.Step.{Step}
use Rattle.page_client.specs.declared.step.Step.TheVariants.{Last, Next}
use Rattle.page_client.specs.declared.want.Want.{Want}
use Rattle.page_client.specs.declared.want.Want.TheVariants as wants
use Rattle.convoy.specs.Exchange.{Got, result_of}
use Rattle.convoy.specs.Steps.{AfterPage as AfterPageSaid, Takes, TakesAsked, TakesGate, TakesStops}
use Rattle.convoy.specs.Replies.Course.{WantsAfter, IsAtGate, IsReading, IsSentOn, IsSentRight, connections_in}
use Rattle.convoy.specs.Replies.Ends.{EndsBy, FailsTest, HasAnswered}
use Rattle.convoy.specs.Replies.Made.{Made, failure_of, reply_to}
use Rattle.convoy.proofs.RepliesLemmas.CourseLemmas.{connections_more, goes_on_at_first, goes_on_more, link_more, reads_more}

-- it wants the time gate's reply
pub record AtGate (base : BaseParts) (s : Shown) (made : List Made) : Type 0 where
  pub accepted : IsRefusal s.query None
  pub come : IsAtGate s.version made
  pub none : s.outcome ≡ None

-- after it the time gate's reply is held
pub record AtStops (base : BaseParts) (s : Shown) (made : List Made) (first : PageName) : Type 0 where
  pub accepted : IsRefusal s.query None
  pub come : IsSentOn base s.query s.version made
  pub is_first : come.first ≡ first
  pub gate : s.gate ≡ Some come.gate
  pub none : s.outcome ≡ None

-- until the first page is taken
abbrev pub HoldsGate : List ℕ → List Page → Option (List ℕ) → Type 0
HoldsGate reply [] gate = gate ≡ Some reply
HoldsGate reply (first ∷ rest) gate = gate ≡ None

-- then it stands for the connections of the pages
pub record AtPage (base : BaseParts) (s : Shown) (client : Client) (made : List Made) (name : PageName) : Type 0 where
  pub accepted : IsRefusal s.query None
  pub come : IsReading base s.query s.version made name
  pub stands : StandsFor client come.doc (connections_in come.pages)
  pub gate : HoldsGate come.gate come.pages s.gate
  pub none : s.outcome ≡ None

-- and at the end it has its outcome
pub record AtEnd (base : BaseParts) (before now : ℕ) (s : Shown) (made : List Made) : Type 0 where
  pub outcome : Outcome
  pub ended : s.outcome ≡ Some outcome
  pub ends : EndsBy base s.query before now s.version made outcome

-- what holds in each phase
abbrev pub At : BaseParts → ℕ → ℕ → Client → List Made → Shown → Phase → Type 0
At base before now client made s phases.Gate = AtGate base s made
At base before now client made s (phases.Stops first) = AtStops base s made first
At base before now client made s (phases.Page name) = AtPage base s client made name
At base before now client made s phases.Finished = AtEnd base before now s made

-- the question stays, and the client is in a phase
pub record Moves (base : BaseParts) (before now : ℕ) (old new : Client) (made : List Made) : Type 0 where
  pub query : (shown new).query ≡ (shown old).query
  pub at : At base before now new made (shown new) (shown new).phase

-- counts of a link in an exchange of a client
pub record Spans (before count later : ℕ) (got : Got) : Type 0 where
  pub from : before ≤ count
  pub cause : HasCause count later (IsErrOf (result_of got) Failed)

module _ (base : BaseParts) (before now : ℕ) (old new : Client) (made : List Made) where
  -- the client shows this now, and is in its phase
  moved : (t : Shown) → shown new ≡ t → t.query ≡ (shown old).query → At base before now new made t t.phase → Moves base before now old new made
  moved t is same there = record {
    query = ap (λ (s : Shown). s.query) is ∙ same;
    at = subst (λ (s : Shown). At base before now new made s s.phase) (sym is) there;
  }

  -- it has ended so
  at_end : (outcome : Outcome) → shown new ≡ ended outcome (shown old) → EndsBy base (shown old).query before now (shown old).version made outcome → Moves base before now old new made
  at_end outcome is ends = moved (ended outcome (shown old)) is refl (record { outcome = outcome; ended = refl; ends = ends })

module _ (base : BaseParts) (before count later : ℕ) (old new : Client) (made : List Made) (want : Want) (accepted : IsRefusal (shown old).query None)
    (come : WantsAfter base (shown old).query (shown old).version made want) where
  -- by an exchange that failed
  cut_off : Spans before count later None → shown new ≡ ended (outcomes.LinkFault count later) (shown old) →
      Moves base before later old new (made ++ failure_of want ∷ [])
  cut_off spans is =
      at_end base before later old new (made ++ failure_of want ∷ []) (outcomes.LinkFault count later) is
      (record {
        accepted = accepted;
        earlier = made;
        want = want;
        came = come;
        was_made = refl;
        from = spans.from;
        rose = spans.cause.rose refl;
        up_to = let same : later ≤ later = omega arith in same;
      })

  -- by a reply that fails a test
  wrong : (reply : List ℕ) (fault : PeerFault) → FailsTest base (shown old).query want reply fault → shown new ≡ ended (outcomes.PeerWrong reply fault) (shown old) →
      Moves base before later old new (made ++ reply_to want reply ∷ [])
  wrong reply fault fails is =
      at_end base before later old new (made ++ reply_to want reply ∷ []) (outcomes.PeerWrong reply fault) is
      (inl (record { accepted = accepted; earlier = made; want = want; came = come; fails = fails; was_made = refl }))

-- an exchange of this want
abbrev pub exchange_of : Want → Got → Made
exchange_of want got = record { want = want; got = got }

-- the time gate is asked
module _ (base : BaseParts) (before count later : ℕ) (old new : Client) (made : List Made) (at : AtGate base (shown old) made) where
  by_gate : (reply : List ℕ) (said : Result PageName PeerFault) → IsGateReply base (shown old).query.leave reply said → shown new ≡ after_gate reply said (shown old) →
      Moves base before later old new (made ++ reply_to wants.Gate reply ∷ [])
  by_gate reply (Err fault) says is = wrong base before count later old new made wants.Gate at.accepted at.come reply fault says is
  by_gate reply (Ok name) says is =
      let t : Shown = after_gate reply (Ok name) (shown old) in
      let come : IsSentOn base (shown old).query (Some name.version) (made ++ reply_to wants.Gate reply ∷ []) = record {
        gate = reply;
        first = name;
        sends = says;
        at_version = refl;
        was_made = ap (λ (l : List Made). l ++ reply_to wants.Gate reply ∷ []) at.come.nothing_made;
      } in
      moved base before later old new (made ++ reply_to wants.Gate reply ∷ []) t is refl
      (record { accepted = at.accepted; come = come; is_first = refl; gate = refl; none = at.none })

  pub gate_asked : (got : Got) → Spans before count later got → Takes old new count later (TakesGate base old new) got → Moves base before later old new (made ++ exchange_of wants.Gate got ∷ [])
  gate_asked None spans takes = cut_off base before count later old new made wants.Gate at.accepted at.come spans takes
  gate_asked (Some reply) spans takes = by_gate reply takes.said takes.says takes.after

-- the stops document is asked for
module _ (base : BaseParts) (before count later : ℕ) (old new : Client) (made : List Made) (first : PageName) (waits : (shown old).phase ≡ phases.Stops first)
    (at : AtStops base (shown old) made first) where
  begins : (reply : List ℕ) (doc : StopsDoc) → IsStopsReply reply (Ok doc) → HasStop doc.stops (shown old).query.from → HasStop doc.stops (shown old).query.to → shown new ≡ after_stops (shown old) →
      StandsFor new doc [] → Moves base before later old new (made ++ reply_to wants.Stops reply ∷ [])
  begins reply doc says from to is stands =
      let c : IsSentOn base (shown old).query (shown old).version made = at.come in
      let t : Shown = record { query = (shown old).query; phase = phases.Page first; version = (shown old).version; gate = (shown old).gate; outcome = (shown old).outcome } in
      let shows : shown new ≡ t =
      is ∙ ap (λ (p : Phase). let s : Shown = record { query = (shown old).query; phase = behind_stops p; version = (shown old).version; gate = (shown old).gate; outcome = (shown old).outcome } in s) waits in
      let come : IsReading base (shown old).query (shown old).version (made ++ reply_to wants.Stops reply ∷ []) first = record {
        gate = c.gate;
        first = c.first;
        sends = c.sends;
        at_version = c.at_version;
        stops = reply;
        doc = doc;
        says_stops = says;
        from = from;
        to = to;
        for_pages = [];
        pages = [];
        reads = tt;
        links = ap Some at.is_first;
        right = tt;
        goes_on = goes_on_at_first (shown old).query doc;
        was_made = ap (λ (l : List Made). l ++ reply_to wants.Stops reply ∷ []) c.was_made;
      } in
      moved base before later old new (made ++ reply_to wants.Stops reply ∷ []) t shows refl
      (record {
        accepted = at.accepted;
        come = come;
        stands = stands;
        gate = at.gate;
        none = at.none;
      })

  by_doc : (reply : List ℕ) (doc : StopsDoc) → IsStopsReply reply (Ok doc) → AfterDoc old doc new → Moves base before later old new (made ++ reply_to wants.Stops reply ∷ [])
  by_doc reply doc says (inl (no_from, is)) =
      at_end base before later old new (made ++ reply_to wants.Stops reply ∷ []) (outcomes.Refused UnknownFrom) is
      (record { doc = doc; read = record { accepted = at.accepted; earlier = made; came = at.come; reply = reply; says = says; was_made = refl }; no_from = no_from })
  by_doc reply doc says (inr (inl (from, no_to, is))) =
      at_end base before later old new (made ++ reply_to wants.Stops reply ∷ []) (outcomes.Refused UnknownTo) is
      (record { doc = doc; read = record { accepted = at.accepted; earlier = made; came = at.come; reply = reply; says = says; was_made = refl }; from = from; no_to = no_to })
  by_doc reply doc says (inr (inr (from, to, is, stands))) = begins reply doc says from to is stands

  by_stops : (reply : List ℕ) (said : Result StopsDoc PeerFault) → IsStopsReply reply said → AfterStops old reply said new → Moves base before later old new (made ++ reply_to wants.Stops reply ∷ [])
  by_stops reply (Err fault) says is = wrong base before count later old new made wants.Stops at.accepted at.come reply fault says is
  by_stops reply (Ok doc) says after = by_doc reply doc says after

  pub stops_asked : (got : Got) → Spans before count later got → Takes old new count later (TakesStops old new) got → Moves base before later old new (made ++ exchange_of wants.Stops got ∷ [])
  stops_asked None spans takes = cut_off base before count later old new made wants.Stops at.accepted at.come spans takes
  stops_asked (Some reply) spans takes = by_stops reply takes.said takes.says takes.after

-- once a page is taken the time gate's reply is not held any more
holds_none : (reply : List ℕ) (pages : List Page) (page : Page) → HoldsGate reply (pages ++ page ∷ []) None
holds_none reply [] page = refl
holds_none reply (first ∷ rest) page = refl

-- a best chain arrives in time
arrives_in_time : (query : Query) (doc : StopsDoc) (list : List Connection) (journey : Option Journey) → IsBestChain query doc list journey → IfSome journey (λ (j : Journey). arrives_at j ≤ latest_of query)
arrives_in_time query doc list None best = tt
arrives_in_time query doc list (Some journey) best = best.is_journey.in_time

answered_so : (base : BaseParts) (query : Query) (before now : ℕ) (version : Option ℕ) (made : List Made) (journey : Option Journey) → HasAnswered base query version made journey →
    EndsBy base query before now version made (answered journey)
answered_so base query before now version made None has = has
answered_so base query before now version made (Some journey) has = has

-- a page is taken that a reply says, wherever it came from
module _ (base : BaseParts) (before later : ℕ) (old new : Client) (made : List Made) (name : PageName) (at : AtPage base (shown old) old made name)
    (reply : List ℕ) (page : Page) (says : IsPageReply base name reply (Ok page)) where
  goes : (next : PageName) → IsSentRight (shown old).query.leave (at.come.pages ++ page ∷ []) → page.next ≡ Some next →
      (IsOver (shown old).query at.come.doc (connections_in at.come.pages ++ page.list) page → ⊥) → shown new ≡ onward next (shown old) →
      StandsFor new at.come.doc (connections_in at.come.pages ++ page.list) →
      Moves base before later old new (made ++ reply_to (wants.Page name) reply ∷ [])
  goes next right links not_over is stands =
      let c : IsReading base (shown old).query (shown old).version made name = at.come in
      let one : Made = reply_to (wants.Page name) reply in
      let t : Shown = onward next (shown old) in
      let come : IsReading base (shown old).query (shown old).version (made ++ reply_to (wants.Page name) reply ∷ []) next = record {
        gate = c.gate;
        first = c.first;
        sends = c.sends;
        at_version = c.at_version;
        stops = c.stops;
        doc = c.doc;
        says_stops = c.says_stops;
        from = c.from;
        to = c.to;
        for_pages = c.for_pages ++ one ∷ [];
        pages = c.pages ++ page ∷ [];
        reads = reads_more base (Some c.first) c.for_pages c.pages name one page c.reads c.links (record { reply = reply; is = refl; says = says });
        links = link_more (Some c.first) c.pages page ∙ links;
        right = right;
        goes_on = goes_on_more (shown old).query c.doc c.pages page c.goes_on not_over;
        was_made = ap (λ (l : List Made). l ++ one ∷ []) c.was_made;
      } in
      moved base before later old new (made ++ reply_to (wants.Page name) reply ∷ []) t is refl
      (record {
        accepted = at.accepted;
        come = come;
        stands = subst (λ (l : List Connection). StandsFor new at.come.doc l) (connections_more at.come.pages page) stands;
        gate = holds_none c.gate c.pages page;
        none = at.none;
      })

  ends : (journey : Option Journey) → IsSentRight (shown old).query.leave (at.come.pages ++ page ∷ []) →
      (page.next ≡ None) ⊎ IsOver (shown old).query at.come.doc (connections_in at.come.pages ++ page.list) page →
      IsBestChain (shown old).query at.come.doc (connections_in at.come.pages ++ page.list) journey → shown new ≡ ended (answered journey) (shown old) →
      Moves base before later old new (made ++ reply_to (wants.Page name) reply ∷ [])
  ends journey right stops best is =
      let has : HasAnswered base (shown old).query (shown old).version (made ++ reply_to (wants.Page name) reply ∷ []) journey = record {
        accepted = at.accepted;
        earlier = made;
        name = name;
        came = at.come;
        reply = reply;
        page = page;
        says = says;
        right = right;
        stops = stops;
        best = best;
        in_time = arrives_in_time (shown old).query at.come.doc (connections_in at.come.pages ++ page.list) journey best;
        was_made = refl;
      } in
      at_end base before later old new (made ++ reply_to (wants.Page name) reply ∷ []) (answered journey) is
      (answered_so base (shown old).query before later (shown old).version (made ++ reply_to (wants.Page name) reply ∷ []) journey has)

  by_step : (step : Step) → IsSentRight (shown old).query.leave (at.come.pages ++ page ∷ []) → Follows (shown old).query at.come.doc (connections_in at.come.pages ++ page.list) page step →
      Leaves (shown old) at.come.doc (connections_in at.come.pages ++ page.list) step new →
      Moves base before later old new (made ++ reply_to (wants.Page name) reply ∷ [])
  by_step (Next next) right follows leaves = goes next right follows.0 follows.1 leaves.0 leaves.1
  by_step (Last journey) right follows leaves = ends journey right follows.0 follows.1 leaves

  -- the time gate was right to send to the first of them
  takes_on : IsSentRight (shown old).query.leave (at.come.pages ++ page ∷ []) → GoesOnBy old page new →
      Moves base before later old new (made ++ reply_to (wants.Page name) reply ∷ [])
  takes_on right goes_on =
      let step = goes_on at.come.doc (connections_in at.come.pages) at.stands in
      by_step step.0 right step.1 step.2

  -- or was wrong to send to this one
  sent_wrong : at.come.pages ≡ [] → is_off (shown old).query.leave page ≡ true → shown new ≡ ended (outcomes.PeerWrong at.come.gate (GateWrong page)) (shown old) →
      Moves base before later old new (made ++ reply_to (wants.Page name) reply ∷ [])
  sent_wrong nothing off is =
      at_end base before later old new (made ++ reply_to (wants.Page name) reply ∷ []) (outcomes.PeerWrong at.come.gate (GateWrong page)) is
      (inr (record {
        accepted = at.accepted;
        earlier = made;
        name = name;
        came = at.come;
        none_before = nothing;
        by_gate = refl;
        last = reply;
        page = page;
        says = says;
        off = off;
        fault_is = refl;
        was_made = refl;
      }))

  -- by the test of the time gate
  by_off : (off : Bool) → is_off (shown old).query.leave page ≡ off → at.come.pages ≡ [] →
      AfterPage old page (if off then Some (outcomes.PeerWrong at.come.gate (GateWrong page)) else None) new →
      Moves base before later old new (made ++ reply_to (wants.Page name) reply ∷ [])
  by_off true off nothing takes = sent_wrong nothing off takes
  by_off false off nothing takes = takes_on (subst (λ (l : List Page). IsSentRight (shown old).query.leave (l ++ page ∷ [])) (sym nothing) off) takes

  by_held : (pages : List Page) → at.come.pages ≡ pages → HoldsGate at.come.gate pages (shown old).gate → IsSentRight (shown old).query.leave pages → TakesPage old page new →
      Moves base before later old new (made ++ reply_to (wants.Page name) reply ∷ [])
  by_held [] are held right takes =
      let P : Option (List ℕ) → Type 0 = λ g. AfterPage old page (wrong_gate page (shown old).query.leave g) new in
      by_off (is_off (shown old).query.leave page) refl are (subst P held takes)
  by_held (first ∷ rest) are held right takes =
      let P : Option (List ℕ) → Type 0 = λ g. AfterPage old page (wrong_gate page (shown old).query.leave g) new in
      takes_on (subst (λ (l : List Page). IsSentRight (shown old).query.leave (l ++ page ∷ [])) (sym are) right) (subst P held takes)

  pub page_taken : TakesPage old page new → Moves base before later old new (made ++ reply_to (wants.Page name) reply ∷ [])
  page_taken takes = by_held at.come.pages refl at.gate at.come.right takes

-- a page is asked for
module _ (base : BaseParts) (before count later : ℕ) (old new : Client) (kept after : Kept) (made : List Made) (name : PageName) (at : AtPage base (shown old) old made name) where
  by_page : (reply : List ℕ) (said : Result Page PeerFault) → IsPageReply base name reply said → AfterPageSaid old new reply kept after said →
      Moves base before later old new (made ++ reply_to (wants.Page name) reply ∷ [])
  by_page reply (Err fault) says (is, same) = wrong base before count later old new made (wants.Page name) at.accepted at.come reply fault says is
  by_page reply (Ok page) says (takes, put) = page_taken base before later old new made name at reply page says takes

  pub page_asked : (got : Got) → Spans before count later got → TakesAsked base name old new kept after count later got → Moves base before later old new (made ++ exchange_of (wants.Page name) got ∷ [])
  page_asked None spans (is, same) = cut_off base before count later old new made (wants.Page name) at.accepted at.come spans is
  page_asked (Some reply) spans takes = by_page reply takes.said takes.says takes.after_page
