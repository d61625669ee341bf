-- What each step of a client leaves: it agrees with the side that answered.
use Rattle.std.proofs.Common.{◌≡◌, ◌≢◌, ℕ, inl, inr, List, [], ◌∷◌, ◌++◌, Bool, true, false, Option, Some, None, Result, Ok, refl, ap, sym, subst, ◌∙◌, arith, filter}
use Rattle.std.specs.Prelude.{◌||◌, ◌==◌}
use Rattle.std.specs.List.{list_any}
use Rattle.std.proofs.lemmas.Bool.Decides.{nat_tests}
use Rattle.lc_model.specs.Stop.{HasStop}
use Rattle.lc_model.specs.declared.doc.StopsDoc.{StopsDoc}
use Rattle.lc_model.specs.declared.page.PageName.{PageName}
use Rattle.lc_model.specs.declared.query.Query.{Query}
use Rattle.connection_uri.specs.Base.{BaseParts}
use Rattle.lc_model.specs.Versions.History.{moments_of}
use Rattle.lc_model.specs.Versions.Named.{is_by, last_of}
use Rattle.lc_model.specs.Versions.Pages.{CutPage, departures_of, page_for}
use Rattle.page_json.specs.Sound.{IsSoundName}
use Rattle.page_json.specs.declared.page.Page.{Page}
use Rattle.convoy.specs.PageLaws.Rides.{pages_on}
use Rattle.convoy.proofs.PageLawsLemmas.FilterLemmas.{filter_drops, filter_takes}
use Rattle.convoy.proofs.PageLawsLemmas.RowLemmas.{is_where_next_begins}
use Rattle.page_client.specs.Client.{AfterDoc, AfterStops, StandsFor, shown}
use Rattle.page_client.specs.Gate.{IsGateReply}
use Rattle.page_client.specs.Page.{IsPageReply}
use Rattle.page_client.specs.Request.{known_at, target_of}
use Rattle.page_client.specs.Shown.{IsRefusal, Shown, after_gate, after_stops, behind_stops, ended, spent, want_of}
use Rattle.page_client.specs.Stops.{IsStopsReply}
use Rattle.page_client.specs.declared.client.Client.{Client}
use Rattle.page_client.specs.declared.fault.PeerFault.{PeerFault}
use Rattle.page_client.specs.declared.fault.QueryFault.TheVariants.{UnknownFrom, UnknownTo}
use Rattle.page_client.specs.declared.outcome.Outcome.TheVariants as outcomes
use Rattle.page_client.specs.declared.phase.Phase.{Phase}
use Rattle.page_client.specs.declared.phase.Phase.TheVariants as phases
use Rattle.page_client.specs.declared.want.Want.{Want}
use Rattle.page_client.specs.declared.want.Want.TheVariants as wants
use Rattle.page_client.proofs.OneReplyLemmas.{one_gate_reply, one_page_reply, one_stops_reply}
use Rattle.page_client.proofs.PageLemmas.{waits_for}
use Rattle.connection_uri.specs.Page.{page_target_of}
use Rattle.lc_world.specs.Sides.PageAt.{linked, named, page_among}
use Rattle.lc_world.specs.Sides.Response.{IsPageOf}
use Rattle.lc_world.specs.Sides.Short.{StandsUnder}
use Rattle.lc_world.specs.Sides.Side.{IsValidSide, Side, has_version}
use Rattle.convoy.specs.ClientLaws.Stated.{IsSentTo, IsStatedTo, version_at}
use Rattle.convoy.proofs.ClientLawsLemmas.GateLemmas.{gate_is_stated}
use Rattle.convoy.proofs.ClientLawsLemmas.PageLemmas.{page_is_stated}
use Rattle.convoy.proofs.ClientLawsLemmas.StopsLemmas.{stops_are_stated}
use Rattle.convoy.specs.ClientLaws.Fits.{FitsAt, FitsSide, HasEnded, HasFailed, IsAtGate, IsCutShort, IsOfSide, IsSentOn, WaitsForPage}
use Rattle.convoy.specs.ClientLaws.Laws.{IsAmong}
use Rattle.convoy.specs.ClientLaws.Steps.{GateKeepsIt, GetsVersion, IsReplyTo, KeepsVersion, LinkFaultKeepsIt, PageIsOwn, PageKeepsIt, SaysOwnPage, SpentKeepsIt, StopsKeepIt}
use Rattle.convoy.specs.ClientLaws.Wants.{AreWants, HasEnds, IsItsVersion, wants_of}
use Rattle.convoy.proofs.ClientLawsLemmas.FitsLemmas.{has_own}
use Rattle.convoy.proofs.ClientLawsLemmas.OwnPageLemmas.{all_parts, found}
use Rattle.convoy.proofs.ClientLawsLemmas.PublishedLemmas.{is_lawful, pages_are_among}
use Rattle.convoy.proofs.ClientLawsLemmas.WaitsForPageLemmas.{ended_fits, takes_on}
use Rattle.convoy.proofs.ClientLawsLemmas.WantsLemmas.{wants_at}

-- who wants the time gate waits for it
waits_at_gate : (phase : Phase) → want_of phase ≡ wants.Gate → phase ≡ phases.Gate
waits_at_gate phases.Gate is = refl
waits_at_gate (phases.Stops first) is = absurd (cc)
waits_at_gate (phases.Page name) is = absurd (cc)
waits_at_gate phases.Finished is = absurd (cc)

-- who wants the stops document waits for it
waits_for_stops : (phase : Phase) → want_of phase ≡ wants.Stops → (first : PageName) × (phase ≡ phases.Stops first)
waits_for_stops phases.Gate is = absurd (cc)
waits_for_stops (phases.Stops first) is = (first, refl)
waits_for_stops (phases.Page name) is = absurd (cc)
waits_for_stops phases.Finished is = absurd (cc)

or_more : (here there : Bool) → there ≡ true → (here || there) ≡ true
or_more true there is = refl
or_more false there is = is

or_between : (here more there : Bool) → (here || there) ≡ true → (here || (more || there)) ≡ true
or_between true more there is = refl
or_between false more there is = or_more more there is

is_itself : (v : ℕ) → (v == v) ≡ true
is_itself v = grind (arith, nat_tests)

first_is : (v : ℕ) → ((v == v) || false) ≡ true
first_is v = ap (λ (b : Bool). b || false) (is_itself v)

-- the version that a known moment means is one of the versions
last_is_one : (p : ℕ → Bool) (base : ℕ) (later : List ℕ) → list_any (λ (v : ℕ). v == last_of base (filter p later)) (base ∷ later) ≡ true
last_is_one p base [] = first_is base
last_is_one p base (x ∷ later) = by_test (p x) refl (last_is_one p x later) (last_is_one p base later) where
  by_test : (b : Bool) → p x ≡ b → list_any (λ (v : ℕ). v == last_of x (filter p later)) (x ∷ later) ≡ true → list_any (λ (v : ℕ). v == last_of base (filter p later)) (base ∷ later) ≡ true →
      list_any (λ (v : ℕ). v == last_of base (filter p (x ∷ later))) (base ∷ x ∷ later) ≡ true
  by_test true e here there =
      let kept : filter p (x ∷ later) ≡ x ∷ filter p later = filter_takes p x later e in
      let P : List ℕ → Type 0 = λ l. list_any (λ (v : ℕ). v == last_of base l) (base ∷ x ∷ later) ≡ true in
      subst P (sym kept) (or_more (base == last_of x (filter p later)) (list_any (λ (v : ℕ). v == last_of x (filter p later)) (x ∷ later)) here)
  by_test false e here there =
      let dropped : filter p (x ∷ later) ≡ filter p later = filter_drops p x later e in
      let last = last_of base (filter p later) in
      let P : List ℕ → Type 0 = λ l. list_any (λ (v : ℕ). v == last_of base l) (base ∷ x ∷ later) ≡ true in
      subst P (sym dropped) (or_between (base == last) (x == last) (list_any (λ (v : ℕ). v == last) later) there)

has_meant : (side : Side) (known : Option ℕ) → has_version side (version_at side known) ≡ true
has_meant side known = last_is_one (is_by known) side.base_moment (moments_of side.history)

-- the reply to what is asked for is the side's reply to its target
stated_to : (side : Side) (query : Query) (want : Want) (reply : List ℕ) → IsReplyTo side side.base query want reply → IsStatedTo side (target_of side.base query want) (known_at query want) reply
stated_to side query want reply is = record { request = is.request; asks = is.asks; replies = is.replies }

-- the time gate's reply
module _ (side : Side) (old new : Client) (wanted : List Want) (reply : List ℕ) (said : Result PageName PeerFault) where
  gate_under : StandsUnder side.base side → IsAtGate (shown old) wanted → IsReplyTo side side.base (shown old).query wants.Gate reply → IsGateReply side.base (shown old).query.leave reply said →
      shown new ≡ after_gate reply said (shown old) → FitsSide side new (wanted ++ wants.Gate ∷ []) × GetsVersion side (shown old) (shown new)
  gate_under stands at_gate replies is_said is =
      let query = old.query in
      let sent : IsSentTo side old.query reply = gate_is_stated side old.query reply stands (stated_to side old.query wants.Gate reply replies) in
      let version = version_at side old.query.known in
      let among : IsAmong side (version_at side old.query.known) old.query.leave sent.is_gate_page.page = pages_are_among side version query.leave sent.is_gate_page.page sent.is_gate_page.is_page in
      let departs = (page_for among.published.first among.published.rest query.leave).departs in
      let name_is : sent.name ≡ named (version_at side old.query.known) (page_for among.published.first among.published.rest old.query.leave).departs = sent.is_gate_page.is ∙ ap (λ (p : Page). p.name) among.is in
      let same : said ≡ Ok sent.name = one_gate_reply side.base query.leave reply said (Ok sent.name) is_said sent.said in
      let shows : shown new ≡ after_gate reply (Ok (named version departs)) (shown old) = is ∙ ap (λ (r : Result PageName PeerFault). after_gate reply r (shown old)) (same ∙ ap Ok name_is) in
      let phase : new.phase ≡ phases.Stops (named version departs) = ap (λ (s : Shown). s.phase) shows in
      let same_version : new.version ≡ Some (version_at side old.query.known) = ap (λ (s : Shown). s.version) shows in
      let there : IsSentOn side (after_gate reply (Ok (named version departs)) (shown old)) (wanted ++ wants.Gate ∷ []) (named version departs) = record {
        accepted = at_gate.accepted;
        at_version = refl;
        no_outcome = at_gate.no_outcome;
        given = ap (λ (l : List Want). l ++ wants.Gate ∷ []) at_gate.given;
        published = among.published;
        is_published = among.is_published;
        is_page = refl;
        sound = subst IsSoundName name_is sent.is_gate_page.sound;
      } in
      let here : IsSentOn side (shown new) (wanted ++ wants.Gate ∷ []) (named version departs) = subst (λ (s : Shown). IsSentOn side s (wanted ++ wants.Gate ∷ []) (named version departs)) (sym shows) there in (
        record {
          of_side = subst (IsOfSide side) (sym same_version) (has_meant side query.known);
          fits = subst (FitsAt side new (wanted ++ wants.Gate ∷ [])) (sym phase) here;
        },
        record { query = ap (λ (s : Shown). s.query) shows; version = same_version },
      )

pub gate_keeps_it : GateKeepsIt
gate_keeps_it side base old new wanted reply said stands fits wants_gate replies is_said is =
    let at_gate : IsAtGate (shown old) wanted = subst (FitsAt side old wanted) (waits_at_gate old.phase wants_gate) fits.fits in
    let P : BaseParts → Type 0 = λ b. StandsUnder b side → IsReplyTo side b (shown old).query wants.Gate reply → IsGateReply b (shown old).query.leave reply said → FitsSide side new (wanted ++ wants.Gate ∷ []) × GetsVersion side (shown old) (shown new) in
    let under : P side.base = λ s r g. gate_under side old new wanted reply said s at_gate r g is in
    subst P stands.is_base under stands replies is_said

-- the stops document
module _ (side : Side) (valid : IsValidSide side) (old new : Client) (wanted : List Want) (first : PageName) (own : IsOfSide side old.version) (s : IsSentOn side (shown old) wanted first) (waits : old.phase ≡ phases.Stops first) where
  given_stops : wanted ++ wants.Stops ∷ [] ≡ wants_of []
  given_stops = ap (λ (l : List Want). l ++ wants.Stops ∷ []) s.given

  keeps : (t : Shown) → shown new ≡ t → t.query ≡ old.query → t.version ≡ old.version → KeepsVersion (shown old) (shown new)
  keeps t is same_query same_version = record { query = ap (λ (x : Shown). x.query) is ∙ same_query; version = ap (λ (x : Shown). x.version) is ∙ same_version }

  begins : HasStop side.doc.stops old.query.from → HasStop side.doc.stops old.query.to → shown new ≡ after_stops (shown old) → StandsFor new side.doc [] → FitsSide side new (wanted ++ wants.Stops ∷ [])
  begins from to is stands =
      let p = s.published in
      let same_query : new.query ≡ old.query = ap (λ (t : Shown). t.query) is in
      let same_version : new.version ≡ old.version = ap (λ (t : Shown). t.version) is in
      let phase : new.phase ≡ phases.Page first = ap (λ (t : Shown). t.phase) is ∙ ap behind_stops waits in
      let on = is_where_next_begins p.list p.first p.rest old.query.leave (is_lawful side first.version p valid s.is_published).pages in
      let there : WaitsForPage side new (wanted ++ wants.Stops ∷ []) first = record {
        accepted = subst (λ (q : Query). IsRefusal q None) (sym same_query) s.accepted;
        at_version = same_version ∙ s.at_version;
        no_outcome = ap (λ (t : Shown). t.outcome) is ∙ s.no_outcome;
        ends = subst (λ (q : Query). HasEnds side.doc q) (sym same_query) (record { from = from; to = to });
        published = p;
        is_published = s.is_published;
        before = [];
        page = page_for p.first p.rest old.query.leave;
        behind = on.0;
        parts = ap (λ (q : Query). pages_on p.first p.rest q) same_query ∙ on.1;
        is_page = s.is_page;
        sound = s.sound;
        given = given_stops;
        goes_on = λ front taken more e over. nothing_there front taken more e;
        stands = stands;
        by_gate = inl refl;
      } in
      record {
        of_side = subst (IsOfSide side) (sym same_version) own;
        fits = subst (FitsAt side new (wanted ++ wants.Stops ∷ [])) (sym phase) there;
      } where
        nothing_there : (front : List CutPage) (taken : CutPage) (more : List CutPage) → [] ≡ front ++ taken ∷ more → ⊥
        nothing_there [] taken more e = cc
        nothing_there (x ∷ front) taken more e = cc

  by_doc : AfterDoc old side.doc new → FitsSide side new (wanted ++ wants.Stops ∷ []) × KeepsVersion (shown old) (shown new)
  by_doc (inl (no_from, is)) = (
    ended_fits side new (wanted ++ wants.Stops ∷ []) (ended (outcomes.Refused UnknownFrom) (shown old)) is refl own (record { accepted = s.accepted; no_from = no_from; given = given_stops }),
    keeps (ended (outcomes.Refused UnknownFrom) (shown old)) is refl refl,
  )
  by_doc (inr (inl (from, no_to, is))) = (
    ended_fits side new (wanted ++ wants.Stops ∷ []) (ended (outcomes.Refused UnknownTo) (shown old)) is refl own (record { accepted = s.accepted; from = from; no_to = no_to; given = given_stops }),
    keeps (ended (outcomes.Refused UnknownTo) (shown old)) is refl refl,
  )
  by_doc (inr (inr (from, to, is, stands))) = (begins from to is stands, keeps (after_stops (shown old)) is refl refl)

pub stops_keep_it : StopsKeepIt
stops_keep_it side base old new wanted reply said stands fits wants_stops replies is_said after =
    let phase = waits_for_stops old.phase wants_stops in
    let sent : IsSentOn side (shown old) wanted phase.0 = subst (FitsAt side old wanted) phase.1 fits.fits in
    let P : BaseParts → Type 0 = λ b. StandsUnder b side → IsReplyTo side b (shown old).query wants.Stops reply → IsStopsReply reply (Ok side.doc) in
    let under : P side.base = λ s r. stops_are_stated side reply s (stated_to side old.query wants.Stops reply r) in
    let is : IsStopsReply reply (Ok side.doc) = subst P stands.is_base under stands replies in
    let same : said ≡ Ok side.doc = one_stops_reply reply said (Ok side.doc) is_said is in
    let doc : AfterDoc old side.doc new = subst (λ (r : Result StopsDoc PeerFault). AfterStops old reply r new) same after in
    by_doc side stands.valid old new wanted phase.0 fits.of_side sent phase.1 doc

-- a page's reply
module _ (side : Side) (client : Client) (wanted : List Want) (name : PageName) (reply : List ℕ) (said : Result Page PeerFault) (own : IsOfSide side client.version) (u : WaitsForPage side client wanted name) where
  cuts : List ℕ
  cuts = side.cuts_of (departures_of u.published.list)

  page_under : StandsUnder side.base side → IsReplyTo side side.base (shown client).query (wants.Page name) reply → IsPageReply side.base name reply said →
      SaysOwnPage side name said
  page_under stands replies is_said =
      let p = u.published in
      let by = side.cuts_of (departures_of u.published.list) in
      let page : Page = linked name.version by u.page in
      let parts = all_parts p.first p.rest client.query u.before u.page u.behind u.parts in
      let has : has_version side name.version ≡ true = has_own side client.version name.version u.at_version own in
      let is_page : IsPageOf side name.version u.page.departs (linked name.version (side.cuts_of (departures_of u.published.list)) u.page) = record {
        list = p.list;
        timetable = record { live = p.live; are_live = u.is_published.are_live; are_connections = u.is_published.are_connections };
        is =
            sym (ap (λ (pages : List CutPage). linked name.version by (page_among pages u.page.departs)) u.is_published.are_pages
            ∙ ap (linked name.version by) (found side name.version p stands.valid u.is_published _ u.page u.behind parts));
      } in
      let is_recorded = page_is_stated side page reply stands has (subst IsSoundName u.is_page u.sound) is_page (subst (λ (n : PageName). IsStatedTo side (page_target_of side.base n) None reply) u.is_page (stated_to side client.query (wants.Page name) reply replies)) in
      let same : said ≡ Ok page =
      one_page_reply side.base (named name.version u.page.departs) reply said (Ok page) (subst (λ (n : PageName). IsPageReply side.base n reply said) u.is_page is_said) is_recorded.0 in
      subst (SaysOwnPage side name) (sym same) (sym u.is_page, record { has = has; is_page = is_page; sound = is_recorded.1 })

pub page_is_own : PageIsOwn
page_is_own side base client wanted name reply said stands fits wants_page replies is_said =
    let u : WaitsForPage side client wanted name = subst (FitsAt side client wanted) (waits_for client.phase name wants_page) fits.fits in
    let P : BaseParts → Type 0 = λ b. StandsUnder b side → IsReplyTo side b (shown client).query (wants.Page name) reply → IsPageReply b name reply said → SaysOwnPage side name said in
    let under : P side.base = page_under side client wanted name reply said fits.of_side u in
    subst P stands.is_base under stands replies is_said

pub page_keeps_it : PageKeepsIt
page_keeps_it side old new wanted page valid fits wants_page is_own takes =
    let u : WaitsForPage side old wanted page.name = subst (FitsAt side old wanted) (waits_for old.phase page.name wants_page) fits.fits in
    takes_on side valid old new wanted page fits.of_side u is_own takes

-- who waits has no outcome
no_outcome_yet : (side : Side) (client : Client) (wanted : List Want) (phase : Phase) → FitsAt side client wanted phase → (want_of phase ≡ wants.Finished → ⊥) → client.outcome ≡ None
no_outcome_yet side client wanted phases.Gate fits waits = fits.no_outcome
no_outcome_yet side client wanted (phases.Stops first) fits waits = fits.no_outcome
no_outcome_yet side client wanted (phases.Page name) fits waits = fits.no_outcome
no_outcome_yet side client wanted phases.Finished fits waits = absurd (waits refl)

pub spent_keeps_it : SpentKeepsIt
spent_keeps_it side old new wanted fits waits is =
    let none : old.outcome ≡ None = no_outcome_yet side old wanted old.phase fits.fits waits in
    let there : HasEnded side (spent (shown old)) wanted old.outcome = subst (HasEnded side (spent (shown old)) wanted) (sym none) tt in (
      ended_fits side new wanted (spent (shown old)) is refl fits.of_side there,
      record { query = ap (λ (s : Shown). s.query) is; version = ap (λ (s : Shown). s.version) is },
    )

something_given : (wanted rest : List Want) (want : Want) → wanted ≡ want ∷ rest → wanted ≢ []
something_given wanted rest want given nothing = cc

-- after the time gate a client whose exchange fails is cut short
cut_short : (side : Side) (old : Client) (wanted rest : List Want) (first : Want) (version : ℕ) (phase : Phase) → IsValidSide side → IsOfSide side old.version → FitsAt side old wanted phase →
    (want_of phase ≡ wants.Finished → ⊥) → old.version ≡ Some version → wanted ≡ first ∷ rest → HasFailed side (shown old) wanted old.version
cut_short side old wanted rest first version phase valid own fits waits at given =
    let is : IsCutShort side (shown old) wanted version = record {
      of_side = has_own side old.version version at own;
      past_gate = something_given wanted rest first given;
      goes_on = λ all are.
          let next = wants_at side old wanted all version phase valid fits (subst (λ (o : Option ℕ). IsItsVersion o version) (sym at) refl) are waits in
          (want_of phase, next.0, next.1);
    } in
    subst (HasFailed side (shown old) wanted) (sym at) is

failed : (side : Side) (old : Client) (wanted : List Want) (phase : Phase) → IsValidSide side → IsOfSide side old.version → FitsAt side old wanted phase → (want_of phase ≡ wants.Finished → ⊥) →
    HasFailed side (shown old) wanted old.version
failed side old wanted phases.Gate valid own fits waits = subst (HasFailed side (shown old) wanted) (sym fits.no_version) (fits.accepted, fits.given)
failed side old wanted (phases.Stops name) valid own fits waits = cut_short side old wanted [] wants.Gate name.version (phases.Stops name) valid own fits waits fits.at_version fits.given
failed side old wanted (phases.Page name) valid own fits waits = cut_short side old wanted _ wants.Gate name.version (phases.Page name) valid own fits waits fits.at_version fits.given
failed side old wanted phases.Finished valid own fits waits = absurd (waits refl)

pub link_fault_keeps_it : LinkFaultKeepsIt
link_fault_keeps_it side old new wanted before after valid fits waits is =
    let there : HasFailed side (shown old) wanted old.version = failed side old wanted old.phase valid fits.of_side fits.fits waits in (
      ended_fits side new wanted (ended (outcomes.LinkFault before after) (shown old)) is refl fits.of_side
          (moved side (shown old) (ended (outcomes.LinkFault before after) (shown old)) wanted old.version refl there),
      record { query = ap (λ (s : Shown). s.query) is; version = ap (λ (s : Shown). s.version) is },
    ) where
      moved : (side : Side) (s t : Shown) (wanted : List Want) (version : Option ℕ) → t.query ≡ s.query → HasFailed side s wanted version → HasFailed side t wanted version
      moved side s t wanted None same has = (subst (λ (q : Query). IsRefusal q None) (sym same) has.0, has.1)
      moved side s t wanted (Some version) same has = record {
        of_side = has.of_side;
        past_gate = has.past_gate;
        goes_on = λ all are. has.goes_on all (subst (λ (q : Query). AreWants side version q all) same are);
      }
