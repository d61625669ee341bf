-- The wants of a client are one list, stay, and are what it received.
use Rattle.std.proofs.Common.{◌≡◌, ℕ, inl, inr, List, [], ◌∷◌, ◌++◌, Bool, false, cond, Option, Some, None, refl, ap, sym, subst, ◌∙◌, ◌+◌, length, arith}
use Rattle.std.specs.Prelude.{map}
use Rattle.std.proofs.lemmas.Bool.{false_from_ne_true}
use Rattle.std.proofs.lemmas.List.{append_assoc, length-map, map-append}
use Rattle.lc_model.specs.Leg.{IsListBest}
use Rattle.lc_model.specs.Ride.{IsRideAt}
use Rattle.lc_model.specs.declared.page.PageName.{PageName}
use Rattle.lc_model.specs.declared.query.Query.{Query}
use Rattle.lc_model.specs.Versions.Pages.{CutPage}
use Rattle.convoy.specs.PageLaws.Needed.{AreNeeded, up_to_bound}
use Rattle.convoy.specs.PageLaws.Rides.{pages_on}
use Rattle.convoy.specs.PageLaws.Stop.{bound_of}
use Rattle.convoy.proofs.PageLawsLemmas.NeededLemmas.{over_if_reaches}
use Rattle.convoy.proofs.PageLawsLemmas.UpToLemmas.{is_last_by}
use Rattle.page_client.specs.Client.{shown}
use Rattle.page_client.specs.Shown.{IsRefusal, Shown, want_of}
use Rattle.page_client.specs.declared.client.Client.{Client}
use Rattle.page_client.specs.declared.fault.QueryFault.{QueryFault}
use Rattle.page_client.specs.declared.fault.QueryFault.TheVariants.{HorizonRange, SameStop, UnknownFrom, UnknownTo}
use Rattle.page_client.specs.declared.outcome.Outcome.{Outcome}
use Rattle.page_client.specs.declared.outcome.Outcome.TheVariants as outcomes
use Rattle.page_client.specs.declared.phase.Phase.{Phase}
use Rattle.page_client.specs.declared.phase.Phase.TheVariants as phases
use Rattle.page_client.specs.declared.want.Want.{Want}
use Rattle.page_client.specs.declared.want.Want.TheVariants as wants
use Rattle.lc_world.specs.Sides.PageAt.{named}
use Rattle.lc_world.specs.Sides.Side.{IsValidSide, Side}
use Rattle.convoy.specs.ClientLaws.Answered.{NeededAt, names_at}
use Rattle.convoy.specs.ClientLaws.Fits.{FitsAt, HasAnswered, HasEnded, IsDenied, WaitsForPage}
use Rattle.convoy.specs.ClientLaws.Laws.{OneListOfWants, WantsStay}
use Rattle.convoy.specs.ClientLaws.Published.{Published}
use Rattle.convoy.specs.ClientLaws.Steps.{EndsWithAnAnswer, EndsWithItsWants, FaultsCutShort, NoReplyFailsATest, RefusalsAreDeserved, TwoAndThePages, WantsTheNext}
use Rattle.convoy.specs.ClientLaws.Wants.{AreWants, IsItsVersion, IsNoFault, HasEnds, wants_of}
use Rattle.convoy.proofs.ClientLawsLemmas.AnsweredLemmas.{least_of_chains, needed_stays, one_list_of_needed_at}
use Rattle.convoy.proofs.ClientLawsLemmas.PublishedLemmas.{is_lawful, is_timetable, one_published}

-- a question is not refused and taken
refused_or_not : (query : Query) (fault : QueryFault) → IsRefusal query (Some fault) → IsRefusal query None → ⊥
refused_or_not query HorizonRange is accepted = is accepted.0
refused_or_not query SameStop is accepted = accepted.1 is.1
refused_or_not query UnknownFrom is accepted = is
refused_or_not query UnknownTo is accepted = is

pub one_list_of_wants : OneListOfWants
one_list_of_wants side version query a b (inl x) (inl y) = x.are ∙ sym y.are
one_list_of_wants side version query a b (inl x) (inr (inl y)) = absurd (refused_or_not query x.fault x.is_refusal y.accepted)
one_list_of_wants side version query a b (inl x) (inr (inr y)) = absurd (refused_or_not query x.fault x.is_refusal y.accepted)
one_list_of_wants side version query a b (inr (inl x)) (inl y) = absurd (refused_or_not query y.fault y.is_refusal x.accepted)
one_list_of_wants side version query a b (inr (inl x)) (inr (inl y)) = x.are ∙ sym y.are
one_list_of_wants side version query a b (inr (inl x)) (inr (inr y)) = absurd (x.lacks y.ends)
one_list_of_wants side version query a b (inr (inr x)) (inl y) = absurd (refused_or_not query y.fault y.is_refusal x.accepted)
one_list_of_wants side version query a b (inr (inr x)) (inr (inl y)) = absurd (y.lacks x.ends)
one_list_of_wants side version query a b (inr (inr x)) (inr (inr y)) =
    x.are ∙ ap wants_of (one_list_of_needed_at side version query x.names y.names x.are_needed y.are_needed) ∙ sym y.are

-- where the needed pages of two sides are the same, and their documents, so are the wants
over_to : (one two : Side) (version : ℕ) (query : Query) (wanted : List Want) → two.doc ≡ one.doc → ((names : List PageName) → NeededAt one version query names → NeededAt two version query names) →
    AreWants one version query wanted → AreWants two version query wanted
over_to one two version query wanted same both (inl x) = inl x
over_to one two version query wanted same both (inr (inl x)) = inr (inl (record { accepted = x.accepted; lacks = subst (λ d. HasEnds d query → ⊥) (sym same) x.lacks; are = x.are }))
over_to one two version query wanted same both (inr (inr x)) =
    inr (inr (record { accepted = x.accepted; ends = subst (λ d. HasEnds d query) (sym same) x.ends; names = x.names; are_needed = both x.names x.are_needed; are = x.are }))

pub wants_stay : WantsStay
wants_stay query wanted before after version valid later there =
    let same : after.doc ≡ before.doc = ap (λ (s : Side). s.doc) later.is in (
      over_to before after version query wanted same (λ names. (needed_stays query names before after version valid later there).0),
      over_to after before version query wanted (sym same) (λ names. (needed_stays query names before after version valid later there).1),
    )

-- of pages that do not reach a bound all are taken up to it, and the page after them
passes : (bound : ℕ) (before : List CutPage) (page : CutPage) (behind : List CutPage) →
    ((front : List CutPage) (taken : CutPage) (more : List CutPage) → before ≡ front ++ taken ∷ more → is_last_by bound taken ≡ false) →
    (more : List CutPage) × (up_to_bound bound (before ++ page ∷ behind) ≡ before ++ page ∷ more)
passes bound [] page behind goes_on = (cond (is_last_by bound page) [] (up_to_bound bound behind), refl)
passes bound (b ∷ before) page behind goes_on =
    let onward = passes bound before page behind (λ front taken more e. goes_on (b ∷ front) taken more (ap (λ l. b ∷ l) e)) in
    let here : is_last_by bound b ≡ false = goes_on [] b before refl in
    (onward.0, ap (λ (r : Bool). b ∷ cond r [] (up_to_bound bound (before ++ page ∷ behind))) here ∙ ap (λ l. b ∷ l) onward.1)

-- what a client that is under way wants is the next needed page
module _ (side : Side) (valid : IsValidSide side) (client : Client) (wanted : List Want) (name : PageName) (u : WaitsForPage side client wanted name) (names : List PageName) (n : NeededAt side name.version client.query names) where
  there : AreNeeded (IsRideAt u.published.live) client.query side.doc u.published.first u.published.rest n.needed
  there =
      subst (λ (p : Published). AreNeeded (IsRideAt p.live) client.query side.doc p.first p.rest n.needed)
      (one_published side name.version n.published u.published n.is_published u.is_published) n.are_needed

  list_best : IsListBest client.query side.doc u.published.list there.best
  list_best =
      least_of_chains u.published.live u.published.list u.published.first u.published.rest client.query side.doc
      (is_timetable side name.version u.published valid u.is_published) (is_lawful side name.version u.published valid u.is_published).pages
      (is_lawful side name.version u.published valid u.is_published).forward there.best there.is_best

  not_reached : (front : List CutPage) (taken : CutPage) (more : List CutPage) → u.before ≡ front ++ taken ∷ more → is_last_by (bound_of client.query there.best) taken ≡ false
  not_reached front taken more e =
      let lawful = is_lawful side name.version u.published valid u.is_published in
      let parts : pages_on u.published.first u.published.rest client.query ≡ front ++ taken ∷ (more ++ u.page ∷ u.behind) =
      u.parts ∙ ap (λ (b : List CutPage). b ++ u.page ∷ u.behind) e ∙ append_assoc front (taken ∷ more) (u.page ∷ u.behind) in
      false_from_ne_true (is_last_by (bound_of client.query there.best) taken)
      (λ reached. u.goes_on front taken more e
      (over_if_reaches u.published.list u.published.first u.published.rest client.query side.doc lawful.pages lawful.forward front taken (more ++ u.page ∷ u.behind) there.best parts list_best reached))

  needed_next : (more : List PageName) × (names ≡ names_at name.version u.before ++ name ∷ more)
  needed_next =
      let bound = bound_of client.query there.best in
      let upto = passes bound u.before u.page u.behind not_reached in
      let needed : n.needed ≡ u.before ++ u.page ∷ upto.0 = there.are ∙ ap (up_to_bound bound) u.parts ∙ upto.1 in (
        names_at name.version upto.0,
        n.names_are ∙ ap (names_at name.version) needed ∙ map-append (λ (p : CutPage). named name.version p.departs) u.before (u.page ∷ upto.0)
            ∙ ap (λ (m : PageName). names_at name.version u.before ++ m ∷ names_at name.version upto.0) (sym u.is_page),
      )

  wants_next : (more : List Want) × (wants_of names ≡ wanted ++ wants.Page name ∷ more)
  wants_next =
      let next = needed_next in (
        map wants.Page next.0,
        ap wants_of next.1 ∙ ap (λ (l : List Want). wants.Gate ∷ wants.Stops ∷ l) (map-append wants.Page (names_at name.version u.before) (name ∷ next.0))
            ∙ ap (λ (l : List Want). l ++ wants.Page name ∷ map wants.Page next.0) (sym u.given),
      )

-- the first two wants of a question that is not refused
first_two : (side : Side) (version : ℕ) (query : Query) (all : List Want) → AreWants side version query all → IsRefusal query None → (more : List Want) × (all ≡ wants.Gate ∷ wants.Stops ∷ more)
first_two side version query all (inl x) accepted = absurd (refused_or_not query x.fault x.is_refusal accepted)
first_two side version query all (inr (inl x)) accepted = ([], x.are)
first_two side version query all (inr (inr x)) accepted = (map wants.Page x.names, x.are)

same_version : (own : Option ℕ) (name version : ℕ) → own ≡ Some name → IsItsVersion own version → name ≡ version
same_version own name version e is = subst (λ (o : Option ℕ). IsItsVersion o version) e is

pages_next : (side : Side) (client : Client) (wanted all : List Want) (name : PageName) → IsValidSide side → WaitsForPage side client wanted name → AreWants side name.version client.query all →
    (more : List Want) × (all ≡ wanted ++ wants.Page name ∷ more)
pages_next side client wanted all name valid u (inl x) = absurd (refused_or_not client.query x.fault x.is_refusal u.accepted)
pages_next side client wanted all name valid u (inr (inl x)) = absurd (x.lacks u.ends)
pages_next side client wanted all name valid u (inr (inr x)) =
    let next = wants_next side valid client wanted name u x.names x.are_needed in
    (next.0, x.are ∙ next.1)

pub wants_at : (side : Side) (client : Client) (wanted all : List Want) (version : ℕ) (phase : Phase) → IsValidSide side → FitsAt side client wanted phase → IsItsVersion client.version version →
    AreWants side version client.query all → (want_of phase ≡ wants.Finished → ⊥) → (more : List Want) × (all ≡ wanted ++ want_of phase ∷ more)
wants_at side client wanted all version phases.Gate valid fits is are waits =
    let two = first_two side version client.query all are fits.accepted in
    (wants.Stops ∷ two.0, two.1 ∙ ap (λ (l : List Want). l ++ wants.Gate ∷ wants.Stops ∷ two.0) (sym fits.given))
wants_at side client wanted all version (phases.Stops first) valid fits is are waits =
    let two = first_two side version client.query all are fits.accepted in
    (two.0, two.1 ∙ ap (λ (l : List Want). l ++ wants.Stops ∷ two.0) (sym fits.given))
wants_at side client wanted all version (phases.Page name) valid fits is are waits =
    let same : name.version ≡ version = same_version client.version name.version version fits.at_version is in
    pages_next side client wanted all name valid fits (subst (λ (v : ℕ). AreWants side v client.query all) (sym same) are)
wants_at side client wanted all version phases.Finished valid fits is are waits = absurd (waits refl)

pub wants_the_next : WantsTheNext
wants_the_next side client wanted all version valid fits is are waits = wants_at side client wanted all version client.phase valid fits.fits is are waits

-- what a client has that ended so
ended_so : (side : Side) (client : Client) (wanted : List Want) (outcome : Outcome) (phase : Phase) → FitsAt side client wanted phase → client.outcome ≡ Some outcome → HasEnded side (shown client) wanted (Some outcome)
ended_so side client wanted outcome phases.Gate fits is = let none = fits.no_outcome in absurd (cc)
ended_so side client wanted outcome (phases.Stops first) fits is = let none = fits.no_outcome in absurd (cc)
ended_so side client wanted outcome (phases.Page name) fits is = let none = fits.no_outcome in absurd (cc)
ended_so side client wanted outcome phases.Finished fits is = subst (HasEnded side (shown client) wanted) is fits

pub ends_with_an_answer : EndsWithAnAnswer
ends_with_an_answer side client wanted None fits is = ended_so side client wanted outcomes.NoJourney client.phase fits.fits is
ends_with_an_answer side client wanted (Some journey) fits is = ended_so side client wanted (outcomes.Found journey) client.phase fits.fits is

pub refusals_are_deserved : RefusalsAreDeserved
refusals_are_deserved side client wanted fault fits is = ended_so side client wanted (outcomes.Refused fault) client.phase fits.fits is

pub faults_cut_short : FaultsCutShort
faults_cut_short side client wanted before after fits is = ended_so side client wanted (outcomes.LinkFault before after) client.phase fits.fits is

pub no_reply_fails_a_test : NoReplyFailsATest
no_reply_fails_a_test side client wanted reply fault fits is = ended_so side client wanted (outcomes.PeerWrong reply fault) client.phase fits.fits is

answered_wants : (side : Side) (s : Shown) (wanted : List Want) (answer : _) (version : ℕ) → HasAnswered side s wanted answer → IsItsVersion s.version version → AreWants side version s.query wanted
answered_wants side s wanted answer version has is =
    let same : has.version ≡ version = same_version s.version has.version version has.at_version is in
    subst (λ (v : ℕ). AreWants side v s.query wanted) same (inr (inr (record { accepted = has.accepted; ends = has.ends; names = has.names; are_needed = has.are_needed; are = has.given })))

denied_wants : (side : Side) (s : Shown) (wanted : List Want) (fault : QueryFault) (version : ℕ) → IsDenied side s wanted fault → AreWants side version s.query wanted
denied_wants side s wanted HorizonRange version is = inl (record { fault = HorizonRange; is_refusal = is.deserved; are = is.given })
denied_wants side s wanted SameStop version is = inl (record { fault = SameStop; is_refusal = is.deserved; are = is.given })
denied_wants side s wanted UnknownFrom version is = inr (inl (record { accepted = is.accepted; lacks = λ e. is.no_from e.from; are = is.given }))
denied_wants side s wanted UnknownTo version is = inr (inl (record { accepted = is.accepted; lacks = λ e. is.no_to e.to; are = is.given }))

ended_wants : (side : Side) (s : Shown) (wanted : List Want) (version : ℕ) (outcome : Option Outcome) → HasEnded side s wanted outcome → IsItsVersion s.version version → IsNoFault outcome → AreWants side version s.query wanted
ended_wants side s wanted version None has is no_fault = absurd no_fault
ended_wants side s wanted version (Some (outcomes.Found journey)) has is no_fault = answered_wants side s wanted _ version has is
ended_wants side s wanted version (Some outcomes.NoJourney) has is no_fault = answered_wants side s wanted _ version has is
ended_wants side s wanted version (Some (outcomes.Refused fault)) has is no_fault = denied_wants side s wanted fault version has
ended_wants side s wanted version (Some (outcomes.LinkFault before after)) has is no_fault = absurd no_fault
ended_wants side s wanted version (Some (outcomes.PeerWrong reply fault)) has is no_fault = absurd no_fault

wants_given : (side : Side) (client : Client) (wanted : List Want) (version : ℕ) (phase : Phase) → FitsAt side client wanted phase → IsItsVersion client.version version → IsNoFault client.outcome →
    AreWants side version client.query wanted
wants_given side client wanted version phases.Gate fits is no_fault = absurd (subst IsNoFault fits.no_outcome no_fault)
wants_given side client wanted version (phases.Stops first) fits is no_fault = absurd (subst IsNoFault fits.no_outcome no_fault)
wants_given side client wanted version (phases.Page name) fits is no_fault = absurd (subst IsNoFault fits.no_outcome no_fault)
wants_given side client wanted version phases.Finished fits is no_fault = ended_wants side (shown client) wanted version client.outcome fits is no_fault

pub ends_with_its_wants : EndsWithItsWants
ends_with_its_wants side client wanted version fits is no_fault = wants_given side client wanted version client.phase fits.fits is no_fault

-- the time gate, the stops document and the pages
two_more : (names : List PageName) → length (wants_of names) ≡ length names + 2
two_more names = omega (arith, length-map names wants.Page)

pub two_and_the_pages : TwoAndThePages
two_and_the_pages side client wanted journey names version fits is at needed =
    let has = ends_with_an_answer side client wanted journey fits is in
    let same : has.version ≡ version = let known = has.at_version in cc in
    let one : has.names ≡ names = one_list_of_needed_at side version client.query has.names names (subst (λ (v : ℕ). NeededAt side v client.query has.names) same has.are_needed) needed in
    ap length has.given ∙ two_more has.names ∙ ap (λ (l : List PageName). length l + 2) one
