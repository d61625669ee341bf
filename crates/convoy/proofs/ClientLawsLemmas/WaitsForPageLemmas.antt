-- A client that is under way takes a page of the side.
use Rattle.std.proofs.Common.{◌≡◌, ℕ, ◌≤◌, inl, inr, List, [], ◌∷◌, ◌++◌, Option, Some, None, refl, ap, ap₂, sym, subst, ◌∙◌}
use Rattle.std.specs.Prelude.{◌⊎◌, map, option_map, reverse}
use Rattle.std.specs.Option.{IfSome}
use Rattle.std.proofs.lemmas.List.{append-nil, append_assoc, map-append}
use Rattle.std.proofs.lemmas.List.Concat.{flat_map-append}
use Rattle.lc_model.specs.Connection.{last_departure}
use Rattle.lc_model.specs.Leg.{IsListBest}
use Rattle.lc_model.specs.declared.connection.Connection.{Connection}
use Rattle.lc_model.specs.declared.doc.StopsDoc.{StopsDoc}
use Rattle.lc_model.specs.declared.journey.Journey.{Journey}
use Rattle.lc_model.specs.declared.page.PageName.{PageName}
use Rattle.lc_model.specs.declared.query.Query.{Query}
use Rattle.lc_model.specs.Versions.Cuts.{first_of}
use Rattle.lc_model.specs.Versions.Pages.{CutPage}
use Rattle.csa_scan.specs.Done.{IsDone}
use Rattle.csa_scan.specs.StandsFor.{IsBestChain}
use Rattle.page_json.specs.Sound.{IsSoundName}
use Rattle.page_json.specs.declared.page.Page.{Page}
use Rattle.convoy.specs.PageLaws.Chain.{along_previous, connections_along, names_of}
use Rattle.convoy.specs.PageLaws.Needed.{IsOver, IsTakenUntilOver}
use Rattle.convoy.specs.PageLaws.Rides.{pages_on}
use Rattle.convoy.specs.PageLaws.Stop.{bound_of}
use Rattle.page_client.specs.Client.{AfterPage, GoesOnBy, Leaves, StandsFor, TakesPage, shown}
use Rattle.page_client.specs.Course.{Follows, IsOver as IsOverThen}
use Rattle.page_client.specs.Shown.{IsRefusal, Shown, answered, ended, onward, wrong_gate}
use Rattle.page_client.specs.declared.client.Client.{Client}
use Rattle.page_client.specs.declared.outcome.Outcome.{Outcome}
use Rattle.page_client.specs.declared.phase.Phase.TheVariants as phases
use Rattle.page_client.specs.declared.step.Step.{Step}
use Rattle.page_client.specs.declared.step.Step.TheVariants.{Last, Next}
use Rattle.page_client.specs.declared.want.Want.{Want}
use Rattle.page_client.specs.declared.want.Want.TheVariants as wants
use Rattle.lc_world.specs.Sides.PageAt.{named}
use Rattle.lc_world.specs.Sides.Response.{IsPageOf}
use Rattle.lc_world.specs.Sides.Side.{IsValidSide, Side}
use Rattle.convoy.specs.ClientLaws.Answered.{answer_of, names_at}
use Rattle.convoy.specs.ClientLaws.Fits.{FitsAt, FitsSide, HasAnswered, HasEnded, IsOfSide, WaitsForPage}
use Rattle.convoy.specs.ClientLaws.Published.{IsOwnPage, between}
use Rattle.convoy.specs.ClientLaws.Steps.{KeepsVersion}
use Rattle.convoy.specs.ClientLaws.Wants.{HasEnds, wants_of}
use Rattle.convoy.proofs.ClientLawsLemmas.AnsweredLemmas.{are_needed, is_answer}
use Rattle.convoy.proofs.ClientLawsLemmas.FitsLemmas.{has_own}
use Rattle.convoy.proofs.ClientLawsLemmas.OwnPageLemmas.{all_parts, gate_is_right, own_is_between, pages_by_cuts}
use Rattle.convoy.proofs.ClientLawsLemmas.PublishedLemmas.{is_lawful, is_timetable}

-- what was taken, with one page more
taken_more : (before : List CutPage) (p : CutPage) → connections_along before ++ p.connections ≡ connections_along (before ++ p ∷ [])
taken_more before p =
    sym (flat_map-append (λ (q : CutPage). q.connections) before (p ∷ []) ∙ ap (λ (l : List Connection). connections_along before ++ l) (append-nil p.connections))

not_behind : (front : List CutPage) (taken : CutPage) (more : List CutPage) → [] ≡ front ++ taken ∷ more → ⊥
not_behind [] taken more e = cc
not_behind (q ∷ front) taken more e = cc

-- a page that is not the last one is before it
stands_before : (before front : List CutPage) (p taken next : CutPage) (more : List CutPage) → before ++ p ∷ [] ≡ front ++ taken ∷ next ∷ more → (back : List CutPage) × (before ≡ front ++ taken ∷ back)
stands_before [] [] p taken next more e = (let nothing : [] ≡ next ∷ more = cc in absurd (cc))
stands_before [] (x ∷ front) p taken next more e =
    let nothing : [] ≡ front ++ taken ∷ next ∷ more = cc in
    absurd (not_behind front taken (next ∷ more) nothing)
stands_before (b ∷ before) [] p taken next more e =
    let same : b ≡ taken = cc in
    (before, ap (λ (x : CutPage). x ∷ before) same)
stands_before (b ∷ before) (x ∷ front) p taken next more e =
    let same : b ≡ x = cc in
    let rest : before ++ p ∷ [] ≡ front ++ taken ∷ next ∷ more = cc in
    let onward = stands_before before front p taken next more rest in
    (onward.0, ap₂ (λ (y : CutPage) (l : List CutPage). y ∷ l) same onward.1)

-- the last one is after all others
stands_last : (before front : List CutPage) (p taken : CutPage) → before ++ p ∷ [] ≡ front ++ taken ∷ [] → (before ≡ front) × (p ≡ taken)
stands_last [] [] p taken e = let same : p ≡ taken = cc in (refl, same)
stands_last [] (x ∷ front) p taken e =
    let nothing : [] ≡ front ++ taken ∷ [] = cc in
    absurd (not_behind front taken [] nothing)
stands_last (b ∷ before) [] p taken e =
    let nothing : [] ≡ before ++ p ∷ [] = cc in
    absurd (not_behind before p [] nothing)
stands_last (b ∷ before) (x ∷ front) p taken e =
    let same : b ≡ x = cc in
    let rest : before ++ p ∷ [] ≡ front ++ taken ∷ [] = cc in
    let onward = stands_last before front p taken rest in
    (ap₂ (λ (y : CutPage) (l : List CutPage). y ∷ l) same onward.0, onward.1)

-- one is done by a moment that is at the bound or later
done_by : (query : Query) (best : Option ℕ) (last : ℕ) → bound_of query best ≤ last → IsDone query best last
done_by query None last by_last = by_last
done_by query (Some arrival) last by_last = by_last

bound_by : (query : Query) (best : Option ℕ) (last : ℕ) → IsDone query best last → bound_of query best ≤ last
bound_by query None last done = done
bound_by query (Some arrival) last done = done

-- a client is over where its pages are
module _ (query : Query) (doc : StopsDoc) (before : List CutPage) (p : CutPage) (page : Page) (same : page.list ≡ p.connections) where
  taken_is : connections_along before ++ page.list ≡ connections_along (before ++ p ∷ [])
  taken_is = ap (λ (l : List Connection). connections_along before ++ l) same ∙ taken_more before p

  over_then : IsOver query doc before p → IsOverThen query doc (connections_along before ++ page.list) page
  over_then over = record {
    last = over.last;
    is_last = ap last_departure same ∙ over.is_last;
    best = over.best;
    is_best = subst (λ (l : List Connection). IsListBest query doc l over.best) (sym taken_is) over.is_best;
    by_last = done_by query over.best over.last over.by_last;
  }

  over_there : IsOverThen query doc (connections_along before ++ page.list) page → IsOver query doc before p
  over_there over = record {
    best = over.best;
    is_best = subst (λ (l : List Connection). IsListBest query doc l over.best) taken_is over.is_best;
    last = over.last;
    is_last = ap last_departure (sym same) ∙ over.is_last;
    by_last = bound_by query over.best over.last over.by_last;
  }

-- the page that is linked to is the one after
record IsNext (version : ℕ) (behind : List CutPage) (next : PageName) : Type 0 where
  page : CutPage
  more : List CutPage
  are : behind ≡ page ∷ more
  is : next ≡ named version page.departs

is_next : (version : ℕ) (behind : List CutPage) (next : PageName) → option_map (named version) (first_of (names_of behind)) ≡ Some next → IsNext version behind next
is_next version [] next links = absurd (cc)
is_next version (q ∷ more) next links = record { page = q; more = more; are = refl; is = let same : named version q.departs ≡ next = cc in sym same }

is_last : (version : ℕ) (behind : List CutPage) → option_map (named version) (first_of (names_of behind)) ≡ None → behind ≡ []
is_last version [] links = refl
is_last version (q ∷ more) links = absurd (cc)

-- the wants, with one page more
wants_more : (version : ℕ) (before : List CutPage) (p : CutPage) → wants_of (names_at version before) ++ wants.Page (named version p.departs) ∷ [] ≡ wants_of (names_at version (before ++ p ∷ []))
wants_more version before p =
    let name : CutPage → PageName = λ (q : CutPage). named version q.departs in
    ap (λ (l : List Want). wants.Gate ∷ wants.Stops ∷ l)
    (sym (ap (map wants.Page) (map-append name before (p ∷ [])) ∙ map-append wants.Page (names_at version before) (name p ∷ [])))

-- a client that has ended so
pub ended_fits : (side : Side) (client : Client) (wanted : List Want) (s : Shown) → shown client ≡ s → s.phase ≡ phases.Finished → IsOfSide side s.version → HasEnded side s wanted s.outcome → FitsSide side client wanted
ended_fits side client wanted s is finished own has =
    let phase : client.phase ≡ phases.Finished = ap (λ (t : Shown). t.phase) is ∙ finished in
    let there : HasEnded side (shown client) wanted client.outcome = subst (λ (t : Shown). HasEnded side t wanted t.outcome) (sym is) has in
    record {
      of_side = subst (λ (t : Shown). IsOfSide side t.version) (sym is) own;
      fits = subst (FitsAt side client wanted) (sym phase) there;
    }

answered_so : (side : Side) (s : Shown) (wanted : List Want) (journey : Option Journey) → HasAnswered side s wanted (answer_of journey) → HasEnded side s wanted (Some (answered journey))
answered_so side s wanted None has = has
answered_so side s wanted (Some journey) has = has

module _ (side : Side) (valid : IsValidSide side) (old new : Client) (wanted : List Want) (page : Page) (own : IsOfSide side old.version) (u : WaitsForPage side old wanted page.name) (is_own : IsOwnPage side page) where
  is_between : page ≡ between page.name.version (reverse (along_previous u.published.first u.published.rest old.query.leave) ++ u.before) u.page u.behind
  is_between =
      own_is_between side page.name.version u.published valid u.is_published
      (reverse (along_previous u.published.first u.published.rest old.query.leave) ++ u.before) u.page u.behind
      (all_parts u.published.first u.published.rest old.query u.before u.page u.behind u.parts) page
      (subst (λ (n : PageName). IsPageOf side page.name.version n.departs page) u.is_page is_own.is_page)

  list_is : page.list ≡ u.page.connections
  list_is = ap (λ (p : Page). p.list) is_between

  next_is : page.next ≡ option_map (named page.name.version) (first_of (names_of u.behind))
  next_is = ap (λ (p : Page). p.next) is_between

  right : wrong_gate page old.query.leave old.gate ≡ None
  right =
      elim u.by_gate [
        | inl nothing ↦
            gate_is_right u.published.list u.published.first u.published.rest old.query page.name.version u.page u.behind page old.gate
            (pages_by_cuts side page.name.version u.published valid u.is_published)
            (u.parts ∙ ap (λ (b : List CutPage). b ++ u.page ∷ u.behind) nothing)
            (is_between ∙ ap (λ (b : List CutPage). between page.name.version (reverse (along_previous u.published.first u.published.rest old.query.leave) ++ b) u.page u.behind) nothing)
        | inr none ↦ ap (wrong_gate page old.query.leave) none
      ]

  given_more : wanted ++ wants.Page page.name ∷ [] ≡ wants_of (names_at page.name.version (u.before ++ u.page ∷ []))
  given_more =
      ap₂ (λ (l : List Want) (n : PageName). l ++ wants.Page n ∷ []) u.given u.is_page ∙ wants_more page.name.version u.before u.page

  not_over_more : ¬ IsOver old.query side.doc u.before u.page → (front : List CutPage) (taken : CutPage) (more : List CutPage) → u.before ++ u.page ∷ [] ≡ front ++ taken ∷ more → ¬ IsOver old.query side.doc front taken
  not_over_more here front taken [] e over =
      let ends = stands_last u.before front u.page taken e in
      here (subst (λ (b : List CutPage). IsOver old.query side.doc b u.page) (sym ends.0) (subst (λ (q : CutPage). IsOver old.query side.doc front q) (sym ends.1) over))
  not_over_more here front taken (next ∷ more) e over =
      let before = stands_before u.before front u.page taken next more e in
      u.goes_on front taken before.0 before.1 over

  keeps : (s : Shown) → shown new ≡ s → s.query ≡ old.query → s.version ≡ old.version → KeepsVersion (shown old) (shown new)
  keeps s is same_query same_version = record { query = ap (λ (t : Shown). t.query) is ∙ same_query; version = ap (λ (t : Shown). t.version) is ∙ same_version }

  -- it wants the next page
  goes : (next : PageName) → page.next ≡ Some next → (IsOverThen old.query side.doc (connections_along u.before ++ page.list) page → ⊥) → shown new ≡ onward next (shown old) →
      StandsFor new side.doc (connections_along u.before ++ page.list) → FitsSide side new (wanted ++ wants.Page page.name ∷ [])
  goes next links not_over is stands =
      let onto : IsNext page.name.version u.behind next = is_next page.name.version u.behind next (sym next_is ∙ links) in
      let same_query : new.query ≡ old.query = ap (λ (t : Shown). t.query) is in
      let same_version : new.version ≡ old.version = ap (λ (t : Shown). t.version) is in
      let phase : new.phase ≡ phases.Page next = ap (λ (t : Shown). t.phase) is in
      let sound : IsSoundName next = subst (λ (o : Option PageName). IfSome o IsSoundName) links is_own.sound.next in
      let there : WaitsForPage side new (wanted ++ wants.Page page.name ∷ []) (named page.name.version onto.page.departs) = record {
        accepted = subst (λ (q : Query). IsRefusal q None) (sym same_query) u.accepted;
        at_version = same_version ∙ u.at_version;
        no_outcome = ap (λ (t : Shown). t.outcome) is ∙ u.no_outcome;
        ends = subst (λ (q : Query). HasEnds side.doc q) (sym same_query) u.ends;
        published = u.published;
        is_published = u.is_published;
        before = u.before ++ u.page ∷ [];
        page = onto.page;
        behind = onto.more;
        parts =
            ap (λ (q : Query). pages_on u.published.first u.published.rest q) same_query ∙ u.parts
            ∙ ap (λ (l : List CutPage). u.before ++ u.page ∷ l) onto.are ∙ sym (append_assoc u.before (u.page ∷ []) (onto.page ∷ onto.more));
        is_page = refl;
        sound = subst IsSoundName onto.is sound;
        given = given_more;
        goes_on = λ front taken more e over.
            not_over_more (λ o. not_over (over_then old.query side.doc u.before u.page page list_is o)) front taken more e
            (subst (λ (q : Query). IsOver q side.doc front taken) same_query over);
        stands = subst (λ (l : List Connection). StandsFor new side.doc l) (taken_is old.query side.doc u.before u.page page list_is) stands;
        by_gate = inr (ap (λ (t : Shown). t.gate) is);
      } in
      record {
        of_side = subst (IsOfSide side) (sym same_version) own;
        fits = subst (FitsAt side new (wanted ++ wants.Page page.name ∷ [])) (sym phase) (subst (WaitsForPage side new (wanted ++ wants.Page page.name ∷ [])) (sym onto.is) there);
      }

  until : (page.next ≡ None) ⊎ IsOverThen old.query side.doc (connections_along u.before ++ page.list) page → IsTakenUntilOver old.query side.doc (pages_on u.published.first u.published.rest old.query) (u.before ++ u.page ∷ [])
  until stops = record {
    left = u.behind;
    are = u.parts ∙ sym (append_assoc u.before (u.page ∷ []) u.behind);
    goes_on = λ front taken next more e. let before = stands_before u.before front u.page taken next more e in u.goes_on front taken before.0 before.1;
    ends = elim stops [
      | inl none ↦ inl (is_last page.name.version u.behind (sym next_is ∙ none))
      | inr over ↦ inr (u.before, u.page, refl, over_there old.query side.doc u.before u.page page list_is over)
    ];
  }

  -- it ends with the answer
  ends : (journey : Option Journey) → (page.next ≡ None) ⊎ IsOverThen old.query side.doc (connections_along u.before ++ page.list) page →
      IsBestChain old.query side.doc (connections_along u.before ++ page.list) journey → shown new ≡ ended (answered journey) (shown old) → FitsSide side new (wanted ++ wants.Page page.name ∷ [])
  ends journey stops best is =
      let taken = u.before ++ u.page ∷ [] in
      let p = u.published in
      let table = is_timetable side page.name.version p valid u.is_published in
      let lawful = is_lawful side page.name.version p valid u.is_published in
      let chain : IsBestChain old.query side.doc (connections_along (u.before ++ u.page ∷ [])) journey =
      subst (λ (l : List Connection). IsBestChain old.query side.doc l journey) (taken_is old.query side.doc u.before u.page page list_is) best in
      let stopped = until stops in
      let has : HasAnswered side (ended (answered journey) (shown old)) (wanted ++ wants.Page page.name ∷ []) (answer_of journey) = record {
        accepted = u.accepted;
        ends = u.ends;
        version = page.name.version;
        at_version = u.at_version;
        of_side = has_own side old.version page.name.version u.at_version own;
        answers = record {
          live = p.live;
          are_live = u.is_published.are_live;
          is_answer = is_answer p.live p.list p.first p.rest old.query side.doc table lawful.pages lawful.forward taken journey stopped chain;
        };
        names = names_at page.name.version taken;
        are_needed = record {
          published = p;
          is_published = u.is_published;
          needed = taken;
          are_needed = are_needed p.live p.list p.first p.rest old.query side.doc table lawful.pages lawful.forward taken journey stopped chain;
          names_are = refl;
        };
        given = given_more;
      } in
      ended_fits side new (wanted ++ wants.Page page.name ∷ []) (ended (answered journey) (shown old)) is refl own
      (answered_so side (ended (answered journey) (shown old)) (wanted ++ wants.Page page.name ∷ []) journey has)

  by_step : (step : Step) → Follows old.query side.doc (connections_along u.before ++ page.list) page step → Leaves (shown old) side.doc (connections_along u.before ++ page.list) step new →
      FitsSide side new (wanted ++ wants.Page page.name ∷ []) × KeepsVersion (shown old) (shown new)
  by_step (Next next) follows leaves = (goes next follows.0 follows.1 leaves.0 leaves.1, keeps (onward next (shown old)) leaves.0 refl refl)
  by_step (Last journey) follows leaves = (ends journey follows.0 follows.1 leaves, keeps (ended (answered journey) (shown old)) leaves refl refl)

  pub takes_on : TakesPage old page new → FitsSide side new (wanted ++ wants.Page page.name ∷ []) × KeepsVersion (shown old) (shown new)
  takes_on takes =
      let goes_on : GoesOnBy old page new = subst (λ (o : Option Outcome). AfterPage old page o new) right takes in
      let step = goes_on side.doc (connections_along u.before) u.stands in
      by_step step.0 step.1 step.2
