-- A client after a page.
use Rattle.std.proofs.Common.{◌≡◌, ℕ, ◌<◌, ◌≤◌, List, ◌++◌, Bool, true, false, Option, Some, None, refl, sym, ap, subst, arith}
use Rattle.std.proofs.Math.Logic.{∥∥₁_elim, ∥∥₁_map}
use Rattle.std.specs.Prelude.{◌||◌, ◌&&◌, if◌then◌else◌}
use Rattle.std.specs.Coded.{le_prop}
use Rattle.std.specs.List.{All}
use Rattle.std.proofs.lemmas.Bool.Decides.{nat_tests}
use Rattle.std.proofs.lemmas.List.Elements.{All-append, All-weaker}
use Rattle.lc_model.specs.Connection.{InDepartureOrder, last_departure}
use Rattle.lc_model.specs.Leg.{IsListBest}
use Rattle.lc_model.specs.Question.{latest_of}
use Rattle.lc_model.specs.declared.connection.Connection.{Connection}
use Rattle.lc_model.specs.declared.doc.StopsDoc.{StopsDoc}
use Rattle.lc_model.specs.declared.journey.Journey.{Journey}
use Rattle.lc_model.specs.declared.page.PageName.{PageName}
use Rattle.lc_model.specs.declared.query.Query.{Query}
use Rattle.csa_scan.specs.StandsFor.{StandsFor}
use Rattle.csa_scan.specs.declared.scan.Scan.{Scan}
use Rattle.page_json.specs.Valid.{IsValidPage}
use Rattle.page_json.specs.declared.page.Page.{Page}
use Rattle.page_client.specs.Client.{AfterPage, GoesOnBy, StandsFor as ClientStandsFor, TakesPage, shown}
use Rattle.page_client.specs.Course.{Follows, HasScanned, IsOver, IsReading, IsSound, TakesOn}
use Rattle.page_client.specs.Page.{advances, begins_at, is_on_from}
use Rattle.page_client.specs.Shown.{answered, ended, is_early, is_late, left_at, onward, pages_left, want_of, wrong_gate}
use Rattle.page_client.specs.declared.client.Client.{Client}
use Rattle.page_client.specs.declared.fault.PeerFault.TheVariants.{GateWrong}
use Rattle.page_client.specs.declared.outcome.Outcome.{Outcome}
use Rattle.page_client.specs.declared.outcome.Outcome.TheVariants.{PeerWrong}
use Rattle.page_client.specs.declared.phase.Phase.{Phase}
use Rattle.page_client.specs.declared.phase.Phase.TheVariants as phases
use Rattle.page_client.specs.declared.step.Step.{Step}
use Rattle.page_client.specs.declared.step.Step.TheVariants.{Last, Next}
use Rattle.page_client.specs.declared.want.Want.TheVariants as wants
use Rattle.page_client.proofs.OrderLemmas.{LeadsOn, begins, ends, in_order-append, leads_on, spans, within_horizon}

-- who wants a page waits for it
pub waits_for : (phase : Phase) (name : PageName) → want_of phase ≡ wants.Page name → phase ≡ phases.Page name
waits_for phases.Gate name is = absurd (cc)
waits_for (phases.Stops first) name is = absurd (cc)
waits_for (phases.Page other) name is = let same : other ≡ name = cc in ap phases.Page same
waits_for phases.Finished name is = absurd (cc)

-- such a client has an exchange before it
pub some_left : (query : Query) (gate : Option (List ℕ)) (phase : Phase) (name : PageName) → want_of phase ≡ wants.Page name → 0 < left_at query gate phase
some_left query gate phases.Gate name is = absurd (cc)
some_left query gate (phases.Stops first) name is = absurd (cc)
some_left query (Some reply) (phases.Page other) name is = omega arith
some_left query None (phases.Page other) name is = omega arith
some_left query gate phases.Finished name is = absurd (cc)

-- and a scan
pub has_scan : (query : Query) (gate : Option (List ℕ)) (scan : Option Scan) (phase : Phase) (name : PageName) → want_of phase ≡ wants.Page name → ∥ IsSound query gate scan phase ∥₁ → scan ≡ None → ⊥
has_scan query gate scan phase name is sound none =
    let P : Phase → Type 0 = λ p. ∥ IsSound query gate scan p ∥₁ in
    let absent : IsProp ⊥ = hlevel in
    ∥∥₁_elim (subst P (waits_for phase name is) sound) absent (λ h. let e = h.is in cc)

-- both parts of a test
both : (a b : Bool) → (a && b) ≡ true → (a ≡ true) × (b ≡ true)
both true true e = (refl, refl)
both true false e = absurd (cc)
both false b e = absurd (cc)

-- a page whose time gate was not wrong links to a page after the moment at which the question leaves
later_than_leave : (page : Page) (leave : ℕ) (reply : List ℕ) (next : PageName) → wrong_gate page leave (Some reply) ≡ None → page.next ≡ Some next → leave < next.departs
later_than_leave page leave reply next right is = by_late (is_late leave page.list page.previous) (is_early leave page.next) right refl where
  by_late : (late early : Bool) → (if late || early then Some (PeerWrong reply (GateWrong page)) else None) ≡ None → is_early leave page.next ≡ early → leave < next.departs
  by_late true early e f = absurd (cc)
  by_late false true e f = absurd (cc)
  by_late false false e f = let P : Option PageName → Type 0 = λ link. is_early leave link ≡ false in let g = subst P is f in grind (arith, nat_tests)

module _ (page : Page) (goes : advances page ≡ true) (valid : IsValidPage page) where
  parts : (begins_at page.list page.name.departs ≡ true) × (is_on_from (last_departure page.list) page.next ≡ true)
  parts = both (begins_at page.list page.name.departs) (is_on_from (last_departure page.list) page.next) goes

  -- its connections depart from its name's departure on
  pub from_name : All (λ (c : Connection). page.name.departs ≤ c.dep) page.list
  from_name = begins page.list page.name.departs valid.in_order parts.0

  -- what was taken before it and its connections are one list in departure order
  pub behind_taken : (taken : List Connection) → InDepartureOrder taken → All (λ (c : Connection). c.dep < page.name.departs) taken → InDepartureOrder (taken ++ page.list)
  behind_taken taken in_order before = in_order-append taken page.list page.name.departs in_order valid.in_order before from_name

  module _ (next : PageName) (links : page.next ≡ Some next) where
    on : LeadsOn page.list next
    on = leads_on page.list page.next next parts.1 links

    by_last : page.name.departs ≤ on.last
    by_last = spans page.list page.name.departs on.last valid.in_order parts.0 on.is_last

    -- all of it departs before the next page
    pub before_next : (taken : List Connection) → All (λ (c : Connection). c.dep < page.name.departs) taken → All (λ (c : Connection). c.dep < next.departs) (taken ++ page.list)
    before_next taken before =
        let above = on.above in
        let by = by_last in
        All-append (λ (c : Connection). c.dep < next.departs) taken page.list
        (All-weaker (λ (c : Connection). c.dep < page.name.departs) (λ (c : Connection). c.dep < next.departs) (λ c h. omega arith) taken before)
        (All-weaker (λ (c : Connection). c.dep ≤ on.last) (λ (c : Connection). c.dep < next.departs) (λ c h. omega arith) page.list (ends page.list on.last valid.in_order on.is_last))

    -- the next page departs after the moment at which the question leaves
    pub later : (query : Query) (gate : Option (List ℕ)) → wrong_gate page query.leave gate ≡ None → (gate ≡ None → query.leave < page.name.departs) → query.leave < next.departs
    later query (Some reply) right before = later_than_leave page query.leave reply next right links
    later query None right before = let first = before refl in let above = on.above in let by = by_last in omega arith

    -- fewer pages are left
    pub fewer : (query : Query) (doc : StopsDoc) (taken : List Connection) (best : Option ℕ) (gate : Option (List ℕ)) → 1 ≤ query.horizon → IsListBest query doc taken best → (IsOver query doc taken page → ⊥) →
        wrong_gate page query.leave gate ≡ None → (gate ≡ None → query.leave < page.name.departs) → pages_left query None next < pages_left query gate page.name
    fewer query doc taken best (Some reply) horizon is_best goes_on right before = let after = later query (Some reply) right before in omega arith
    fewer query doc taken best None horizon is_best goes_on right before =
        let early : on.last < latest_of query =
        within_horizon query doc taken best on.last is_best (λ done. goes_on (record { last = on.last; is_last = on.is_last; best = best; is_best = is_best; by_last = done })) in
        let above = on.above in
        let by = by_last in
        omega arith

-- what a scan takes of such a page, whatever it took before
module _ (page : Page) (goes : advances page ≡ true) (valid : IsValidPage page) (has new : Scan) (step : Step) (takes : TakesOn has new page step) where
  pub taken_on : (query : Query) (doc : StopsDoc) (taken : List Connection) (name : PageName) (scan : Scan) → scan ≡ has → name ≡ page.name → HasScanned query doc taken name scan →
      InDepartureOrder (taken ++ page.list) × StandsFor new query doc (taken ++ page.list) × Follows query doc (taken ++ page.list) page step × ((best : Option ℕ) × IsListBest query doc (taken ++ page.list) best)
      × All (λ (c : Connection). c.dep < page.name.departs) taken
  taken_on query doc taken name scan same named scanned =
      let B : PageName → Type 0 = λ n. All (λ (c : Connection). c.dep < n.departs) taken in
      let S : Scan → Type 0 = λ s. StandsFor s query doc taken in
      let before = subst B named scanned.before in
      let in_order = behind_taken page goes valid taken scanned.in_order before in
      let t = takes query doc taken in_order (subst S same scanned.stands) in
      (in_order, t.0, t.1, t.2, before)

module _ (page : Page) (goes : advances page ≡ true) (valid : IsValidPage page) (has new : Scan) (next : PageName) (takes : TakesOn has new page (Next next))
    (query : Query) (gate : Option (List ℕ)) (right : wrong_gate page query.leave gate ≡ None) (scan : Option Scan) (is : scan ≡ Some has)
    (phase : Phase) (wants : phase ≡ phases.Page page.name) (sound : ∥ IsSound query gate scan phase ∥₁) where
  reading : ∥ IsReading query gate scan page.name ∥₁
  reading = let P : Phase → Type 0 = λ p. ∥ IsSound query gate scan p ∥₁ in subst P wants sound

  -- a client that goes on is sound
  pub next_sound : (after : Option (List ℕ)) → after ≡ None → ∥ IsSound query after (Some new) (phases.Page next) ∥₁
  next_sound after none =
      ∥∥₁_map reading (λ h.
      let held = h.is in
      let same : h.has ≡ has = cc in
      let t = taken_on page goes valid has new (Next next) takes query h.doc h.taken page.name h.has same refl h.scanned in
      record {
        horizon = h.horizon;
        doc = h.doc;
        taken = h.taken ++ page.list;
        has = new;
        is = refl;
        scanned = record { stands = t.1; in_order = t.0; before = before_next page goes valid next t.2.0 h.taken t.4 };
        later = λ _. later page goes valid next t.2.0 query gate right h.later;
      })

  -- and has fewer exchanges before it
  pub next_fewer : (after : Option (List ℕ)) → after ≡ None → pages_left query after next < left_at query gate phase
  next_fewer after none =
      let P : Phase → Type 0 = λ p. pages_left query after next < left_at query gate p in
      let Q : Option (List ℕ) → Type 0 = λ g. pages_left query g next < pages_left query gate page.name in
      let less : Q None = ∥∥₁_elim reading le_prop (λ h.
      let held = h.is in
      let same : h.has ≡ has = cc in
      let t = taken_on page goes valid has new (Next next) takes query h.doc h.taken page.name h.has same refl h.scanned in
      fewer page goes valid next t.2.0 query h.doc (h.taken ++ page.list) t.3.0 gate h.horizon.from_one t.3.1 t.2.1 right h.later) in
      subst P (sym wants) (subst Q (sym none) less)

-- the client that takes a page goes on by it
module _ (page : Page) (goes : advances page ≡ true) (valid : IsValidPage page) (has scan : Scan) (old new : Client) (is : old.scan ≡ Some has) (wants : old.phase ≡ phases.Page page.name)
    (right : wrong_gate page old.query.leave old.gate ≡ None) where
  taken_where_right : GoesOnBy old page new → TakesPage old page new
  taken_where_right goes_on = let P : Option Outcome → Type 0 = λ o. AfterPage old page o new in subst P (sym right) goes_on

  module _ (step : Step) (takes : TakesOn has scan page step) (doc : StopsDoc) (taken : List Connection) (stood : ClientStandsFor old doc taken) where
    here : InDepartureOrder (taken ++ page.list) × StandsFor scan old.query doc (taken ++ page.list) × Follows old.query doc (taken ++ page.list) page step
        × ((best : Option ℕ) × IsListBest old.query doc (taken ++ page.list) best) × All (λ (c : Connection). c.dep < page.name.departs) taken
    here =
        let held = stood.has in
        let same : stood.scan ≡ has = cc in
        let waits = stood.wants in
        let named : stood.name ≡ page.name = cc in
        taken_on page goes valid has scan step takes old.query doc taken stood.name stood.scan same named stood.scanned

  pub next_taken : (next : PageName) → TakesOn has scan page (Next next) → new.query ≡ old.query → new.scan ≡ Some scan → new.phase ≡ phases.Page next → shown new ≡ onward next (shown old) → TakesPage old page new
  next_taken next takes same_query new_scan new_phase shows =
      taken_where_right (λ doc taken stood.
      let t = here (Next next) takes doc taken stood in
      let H : Query → Type 0 = λ q. HasScanned q doc (taken ++ page.list) next scan in
      let scanned : H old.query = record { stands = t.1; in_order = t.0; before = before_next page goes valid next t.2.0 taken t.4 } in
      (Next next, t.2, (shows, record { scan = scan; has = new_scan; name = next; wants = new_phase; scanned = subst H (sym same_query) scanned })))

  pub last_taken : (journey : Option Journey) → TakesOn has scan page (Last journey) → shown new ≡ ended (answered journey) (shown old) → TakesPage old page new
  last_taken journey takes shows = taken_where_right (λ doc taken stood. (Last journey, (here (Last journey) takes doc taken stood).2, shows))
